use Rattle.std.proofs.Common.{Some, None, ap, codes, ◌∙◌}
use Rattle.clap.specs.Words.{found_of, rows_of}
use Rattle.form_words.proofs.FoundTexts.{text_has_no_patience, first_text_is_found}
use Rattle.form_words.proofs.setting.patience_in.Goals as goal

pub returns-in_err-number_in-in-Some-clause-none : goal.returns-in_err-number_in-in-Some-clause-none
returns-in_err-number_in-in-Some-clause-none c =
    rw c.from_residual.ensures (text_has_no_patience (rows_of (found_of c.args.matches.now)) c.in-Some.word.now (first_text_is_found (found_of c.args.matches.now) (codes "patience") (Some c.in-Some.word.now) c.in-Some.ensures) c.in_err-number_in-in-Some.ensures.none)

pub returns-in-None-clause-some : goal.returns-in-None-clause-some
returns-in-None-clause-some c = (first_text_is_found (found_of c.args.matches.now) (codes "patience") None c.in-None.ensures, tt)

pub returns-in_ok-number_in-in-Some-clause-some : goal.returns-in_ok-number_in-in-Some-clause-some
returns-in_ok-number_in-in-Some-clause-some c =
    let is = c.in_ok-number_in-in-Some.ensures.some in
    (first_text_is_found (found_of c.args.matches.now) (codes "patience") (Some c.in-Some.word.now) c.in-Some.ensures ∙ ap Some is.0, (is.1, is.2))
