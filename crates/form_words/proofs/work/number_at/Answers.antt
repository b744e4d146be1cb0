use Rattle.std.proofs.Common.{◌≡◌, Some, None, decimal, sym, ◌∙◌}
use Rattle.clap.specs.Words.{found_of, rows_of}
use Rattle.form_words.proofs.FoundTexts.{no_number_in_range, found_number_in_range, first_text_is_found}
use Rattle.form_words.proofs.work.number_at.Goals as goal

pub returns-in_err-word-clause-none : goal.returns-in_err-word-clause-none
returns-in_err-word-clause-none c =
    rw c.from_residual.ensures (λ n has above below. let bad : None ≡ Some (decimal n) = sym (first_text_is_found (found_of c.args.matches.now) c.args.position.now None c.in_err-word.ensures) ∙ has in cc)

pub returns-clause-some : goal.returns-clause-some
returns-clause-some c =
    found_number_in_range (rows_of (found_of c.args.matches.now)) c.args.position.now c.in_ok-word.word.now c.number_in.result c.args.least c.args.most
    (first_text_is_found (found_of c.args.matches.now) c.args.position.now (Some c.in_ok-word.word.now) c.in_ok-word.ensures) c.number_in.ensures.some

pub returns-clause-none : goal.returns-clause-none
returns-clause-none c =
    no_number_in_range (rows_of (found_of c.args.matches.now)) c.args.position.now c.in_ok-word.word.now c.number_in.result c.args.least c.args.most
    (first_text_is_found (found_of c.args.matches.now) c.args.position.now (Some c.in_ok-word.word.now) c.in_ok-word.ensures) c.number_in.ensures.none
