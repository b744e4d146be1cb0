use Rattle.std.proofs.Common.{◌≡◌, ℕ, List, Option, Some, subst}
use Rattle.std.specs.Prelude.{IfSome}
use Rattle.form_words.specs.declared.work.Work.{Work}
use Rattle.form_words.specs.Works.{AskFor, HasInput}
use Rattle.form_words.proofs.AskedWork.{asked_work_is_one}
use Rattle.schism_program.proofs.top.schism.Goals as goal

asked_for : {words : List (List ℕ)} → (found : Option Work) → (work : Work) → found ≡ Some work → IfSome found (AskFor words) → AskFor words work
asked_for found work is asked = rw is at asked

pub returns-in-Ok-Some-clause-says : goal.returns-in-Ok-Some-clause-says
returns-in-Ok-Some-clause-says g c = c.do_work.ensures.says _ (asked_for c.in-Ok-Some.field-0 c.in-Ok-Some.work c.in-Ok-Some.field-0-is c.in-Ok-Some.ensures.some)

pub returns-in-Ok-Some-clause-formless : goal.returns-in-Ok-Some-clause-formless
returns-in-Ok-Some-clause-formless g c = λ none. absurd (none (c.in-Ok-Some.work, asked_for c.in-Ok-Some.field-0 c.in-Ok-Some.work c.in-Ok-Some.field-0-is c.in-Ok-Some.ensures.some))

pub returns-in-Ok-Some-clause-unread : goal.returns-in-Ok-Some-clause-unread
returns-in-Ok-Some-clause-unread g c = λ none. absurd (none (c.in-Ok-Some.work, asked_for c.in-Ok-Some.field-0 c.in-Ok-Some.work c.in-Ok-Some.field-0-is c.in-Ok-Some.ensures.some))

pub returns-in-Ok-Some-clause-untouched : goal.returns-in-Ok-Some-clause-untouched
returns-in-Ok-Some-clause-untouched g c = λ work asked none.
    let its = asked_for c.in-Ok-Some.field-0 c.in-Ok-Some.work c.in-Ok-Some.field-0-is c.in-Ok-Some.ensures.some in
    c.do_work.ensures.untouched (subst (λ (w : Work). ¬ HasInput w) (asked_work_is_one _ work c.in-Ok-Some.work asked its) none)

pub returns-in-Ok-Some-clause-complete : goal.returns-in-Ok-Some-clause-complete
returns-in-Ok-Some-clause-complete g c = λ status due calm_source calm_sink. c.do_work.ensures.complete _ status (asked_for c.in-Ok-Some.field-0 c.in-Ok-Some.work c.in-Ok-Some.field-0-is c.in-Ok-Some.ensures.some) due calm_source calm_sink

pub returns-in-Ok-Some-clause-most : goal.returns-in-Ok-Some-clause-most
returns-in-Ok-Some-clause-most g c = λ form short. c.do_work.ensures.most _ (asked_for c.in-Ok-Some.field-0 c.in-Ok-Some.work c.in-Ok-Some.field-0-is c.in-Ok-Some.ensures.some) short

pub returns-in-Ok-Some-clause-unwritten : goal.returns-in-Ok-Some-clause-unwritten
returns-in-Ok-Some-clause-unwritten g c = c.do_work.ensures.unwritten

pub returns-in-Ok-Some-clause-unclosed : goal.returns-in-Ok-Some-clause-unclosed
returns-in-Ok-Some-clause-unclosed g c = c.do_work.ensures.unclosed

pub returns-in-Ok-Some-clause-read_count : goal.returns-in-Ok-Some-clause-read_count
returns-in-Ok-Some-clause-read_count g c = c.do_work.ensures.read_count

pub returns-in-Ok-Some-clause-write_count : goal.returns-in-Ok-Some-clause-write_count
returns-in-Ok-Some-clause-write_count g c = c.do_work.ensures.write_count
