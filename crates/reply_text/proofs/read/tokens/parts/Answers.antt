use Rattle.std.proofs.Common.{◌≡◌, ◌==◌, ◌∷◌, rules}
use Rattle.std.specs.List.{slice_split}
use Rattle.reply_text.proofs.read_lemmas.Parts.{many_parts_are_not_two}
use Rattle.reply_text.proofs.read.tokens.parts.Goals as goal

pub returns-in-Some-more : goal.returns-in-Some-more
returns-in-Some-more c =
    let first : slice_split (λ b. b == c.args.mark) c.args.word.now ≡ c.cut.result.0.now ∷ slice_split (λ b. b == c.args.mark) c.in-Some.rest.now = search rules in
    let second : slice_split (λ b. b == c.args.mark) c.in-Some.rest.now ≡ c.cut-2.result.0.now ∷ slice_split (λ b. b == c.args.mark) c.in-Some-more.field-0.now = search rules in
    many_parts_are_not_two c.args.mark c.args.word.now _ _ _ _ first second
