use Rattle.std.proofs.Common.{◌≡◌, ◌≢◌, ◌<◌, List, ℕ, ◌++◌, length, MatchOption, subst, rules}
use Rattle.std.proofs.lemmas.Bool.Decides.{Decides-eqb}
use Rattle.std.proofs.lemmas.Slice.Eq.{strip_suffix_is}
use Rattle.script_text.proofs.TextLemmas.{lines_of-stripped}
use Rattle.script_text.proofs.parts.without_last_feed.Goals as goal

pub returns : goal.returns
returns c =
    let text = c.args.text.now in
    let some : 0 < length text = search rules in
    let P : List ℕ → Type 0 = λ feed. MatchOption c.strip_suffix.result ((before : List ℕ) → text ≢ before ++ feed) (λ before. text ≡ before.now ++ feed) in
    let found = subst P c.as_slice.ensures (strip_suffix_is Decides-eqb text c.as_slice.result.now _ c.strip_suffix.ensures.cases) in
    rw c.unwrap_or.ensures (lines_of-stripped c.args.text c.strip_suffix.result some found)
