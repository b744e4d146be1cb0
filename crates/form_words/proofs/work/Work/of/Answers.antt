use Rattle.std.proofs.Common.{◌≡◌, codes, refl}
use Rattle.std.proofs.lemmas.Result.{IfOk-weaker}
use Rattle.form_words.specs.declared.work.Work.{Work}
use Rattle.form_words.specs.declared.work.Work.TheVariants.{Play, Run, Check, Plan, Make, Migrate, Crew, Queue}
use Rattle.form_words.specs.Works.{form_word}
use Rattle.form_words.proofs.Forms.{found_alone_completes, found_work_is_asked, found_work_is_in_range, no_word_no_form, no_words_no_form, none_found_no_crew, none_found_no_making, none_found_no_migration, none_found_no_play, none_found_no_run, none_found_not_alone, said, said_begins}
use Rattle.form_words.proofs.work.Work.of.Goals as goal

pub returns-in_default-clause-none : goal.returns-in_default-clause-none
returns-in_default-clause-none c = no_words_no_form c.args.words.now c.in_default.ensures.cases

pub returns-in-play-clause-some : goal.returns-in-play-clause-some
returns-in-play-clause-some c =
    let begins = said_begins c.args.words.now c.in-Some.form.now c.in-Some.rest.now (codes "play") c.in-Some.ensures.cases.0 c.in-play.is in
    IfOk-weaker c.play_of.result _ _ (λ found some. found_work_is_asked (codes "play") _ (said c.in-Some.rest.now) found begins some) c.play_of.ensures.some

pub returns-in-play-clause-none : goal.returns-in-play-clause-none
returns-in-play-clause-none c =
    let begins = said_begins c.args.words.now c.in-Some.form.now c.in-Some.rest.now (codes "play") c.in-Some.ensures.cases.0 c.in-play.is in
    IfOk-weaker c.play_of.result _ _ (λ found none. none_found_no_play _ (said c.in-Some.rest.now) found begins none) c.play_of.ensures.none

pub returns-in-play-clause-range : goal.returns-in-play-clause-range
returns-in-play-clause-range c = IfOk-weaker c.play_of.result _ _ (λ found some. found_work_is_in_range (codes "play") (said c.in-Some.rest.now) found some) c.play_of.ensures.some

pub returns-in-run-clause-some : goal.returns-in-run-clause-some
returns-in-run-clause-some c =
    let begins = said_begins c.args.words.now c.in-Some.form.now c.in-Some.rest.now (codes "run") c.in-Some.ensures.cases.0 c.in-run.is in
    IfOk-weaker c.run_of.result _ _ (λ found some. found_work_is_asked (codes "run") _ (said c.in-Some.rest.now) found begins some) c.run_of.ensures.some

pub returns-in-run-clause-none : goal.returns-in-run-clause-none
returns-in-run-clause-none c =
    let begins = said_begins c.args.words.now c.in-Some.form.now c.in-Some.rest.now (codes "run") c.in-Some.ensures.cases.0 c.in-run.is in
    IfOk-weaker c.run_of.result _ _ (λ found none. none_found_no_run _ (said c.in-Some.rest.now) found begins none) c.run_of.ensures.none

pub returns-in-run-clause-range : goal.returns-in-run-clause-range
returns-in-run-clause-range c = IfOk-weaker c.run_of.result _ _ (λ found some. found_work_is_in_range (codes "run") (said c.in-Some.rest.now) found some) c.run_of.ensures.some

pub returns-in-make-clause-some : goal.returns-in-make-clause-some
returns-in-make-clause-some c =
    let begins = said_begins c.args.words.now c.in-Some.form.now c.in-Some.rest.now (codes "make") c.in-Some.ensures.cases.0 c.in-make.is in
    IfOk-weaker c.make_of.result _ _ (λ found some. found_work_is_asked (codes "make") _ (said c.in-Some.rest.now) found begins some) c.make_of.ensures.some

pub returns-in-make-clause-none : goal.returns-in-make-clause-none
returns-in-make-clause-none c =
    let begins = said_begins c.args.words.now c.in-Some.form.now c.in-Some.rest.now (codes "make") c.in-Some.ensures.cases.0 c.in-make.is in
    IfOk-weaker c.make_of.result _ _ (λ found none. none_found_no_making _ (said c.in-Some.rest.now) found begins none) c.make_of.ensures.none

pub returns-in-make-clause-range : goal.returns-in-make-clause-range
returns-in-make-clause-range c = IfOk-weaker c.make_of.result _ _ (λ found some. found_work_is_in_range (codes "make") (said c.in-Some.rest.now) found some) c.make_of.ensures.some

pub returns-in-migrate-clause-some : goal.returns-in-migrate-clause-some
returns-in-migrate-clause-some c = found_work_is_asked (codes "migrate") _ (said c.in-Some.rest.now) c.migrate_of.result (said_begins c.args.words.now c.in-Some.form.now c.in-Some.rest.now (codes "migrate") c.in-Some.ensures.cases.0 c.in-migrate.is) c.migrate_of.ensures.some

pub returns-in-migrate-clause-none : goal.returns-in-migrate-clause-none
returns-in-migrate-clause-none c = none_found_no_migration _ (said c.in-Some.rest.now) c.migrate_of.result (said_begins c.args.words.now c.in-Some.form.now c.in-Some.rest.now (codes "migrate") c.in-Some.ensures.cases.0 c.in-migrate.is) c.migrate_of.ensures.none

pub returns-in-migrate-clause-range : goal.returns-in-migrate-clause-range
returns-in-migrate-clause-range c = found_work_is_in_range (codes "migrate") (said c.in-Some.rest.now) c.migrate_of.result c.migrate_of.ensures.some

pub returns-in-crew-clause-some : goal.returns-in-crew-clause-some
returns-in-crew-clause-some c = found_work_is_asked (codes "crew") _ (said c.in-Some.rest.now) c.crew_of.result (said_begins c.args.words.now c.in-Some.form.now c.in-Some.rest.now (codes "crew") c.in-Some.ensures.cases.0 c.in-crew.is) c.crew_of.ensures.some

pub returns-in-crew-clause-none : goal.returns-in-crew-clause-none
returns-in-crew-clause-none c = none_found_no_crew _ (said c.in-Some.rest.now) c.crew_of.result (said_begins c.args.words.now c.in-Some.form.now c.in-Some.rest.now (codes "crew") c.in-Some.ensures.cases.0 c.in-crew.is) c.crew_of.ensures.none

pub returns-in-crew-clause-range : goal.returns-in-crew-clause-range
returns-in-crew-clause-range c = found_work_is_in_range (codes "crew") (said c.in-Some.rest.now) c.crew_of.result c.crew_of.ensures.some

pub returns-in-check-clause-some : goal.returns-in-check-clause-some
returns-in-check-clause-some c = found_work_is_asked (codes "check") _ (said c.in-Some.rest.now) c.alone.result (said_begins c.args.words.now c.in-Some.form.now c.in-Some.rest.now (codes "check") c.in-Some.ensures.cases.0 c.in-check.is) (found_alone_completes Check c.in-Some.rest.now c.alone.result (λ rest none. none) c.alone.ensures.some)

pub returns-in-check-clause-none : goal.returns-in-check-clause-none
returns-in-check-clause-none c = none_found_not_alone Check c.in-Some.rest.now _ c.alone.result (said_begins c.args.words.now c.in-Some.form.now c.in-Some.rest.now (codes "check") c.in-Some.ensures.cases.0 c.in-check.is) refl (λ none. none) c.alone.ensures.none

pub returns-in-check-clause-range : goal.returns-in-check-clause-range
returns-in-check-clause-range c = found_work_is_in_range (codes "check") (said c.in-Some.rest.now) c.alone.result (found_alone_completes Check c.in-Some.rest.now c.alone.result (λ rest none. none) c.alone.ensures.some)

pub returns-in-plan-clause-some : goal.returns-in-plan-clause-some
returns-in-plan-clause-some c = found_work_is_asked (codes "plan") _ (said c.in-Some.rest.now) c.alone-in-plan.result (said_begins c.args.words.now c.in-Some.form.now c.in-Some.rest.now (codes "plan") c.in-Some.ensures.cases.0 c.in-plan.is) (found_alone_completes Plan c.in-Some.rest.now c.alone-in-plan.result (λ rest none. none) c.alone-in-plan.ensures.some)

pub returns-in-plan-clause-none : goal.returns-in-plan-clause-none
returns-in-plan-clause-none c = none_found_not_alone Plan c.in-Some.rest.now _ c.alone-in-plan.result (said_begins c.args.words.now c.in-Some.form.now c.in-Some.rest.now (codes "plan") c.in-Some.ensures.cases.0 c.in-plan.is) refl (λ none. none) c.alone-in-plan.ensures.none

pub returns-in-plan-clause-range : goal.returns-in-plan-clause-range
returns-in-plan-clause-range c = found_work_is_in_range (codes "plan") (said c.in-Some.rest.now) c.alone-in-plan.result (found_alone_completes Plan c.in-Some.rest.now c.alone-in-plan.result (λ rest none. none) c.alone-in-plan.ensures.some)

pub returns-in-queue-clause-some : goal.returns-in-queue-clause-some
returns-in-queue-clause-some c = found_work_is_asked (codes "queue") _ (said c.in-Some.rest.now) c.alone-in-queue.result (said_begins c.args.words.now c.in-Some.form.now c.in-Some.rest.now (codes "queue") c.in-Some.ensures.cases.0 c.in-queue.is) (found_alone_completes Queue c.in-Some.rest.now c.alone-in-queue.result (λ rest none. none) c.alone-in-queue.ensures.some)

pub returns-in-queue-clause-none : goal.returns-in-queue-clause-none
returns-in-queue-clause-none c = none_found_not_alone Queue c.in-Some.rest.now _ c.alone-in-queue.result (said_begins c.args.words.now c.in-Some.form.now c.in-Some.rest.now (codes "queue") c.in-Some.ensures.cases.0 c.in-queue.is) refl (λ none. none) c.alone-in-queue.ensures.none

pub returns-in-queue-clause-range : goal.returns-in-queue-clause-range
returns-in-queue-clause-range c = found_work_is_in_range (codes "queue") (said c.in-Some.rest.now) c.alone-in-queue.result (found_alone_completes Queue c.in-Some.rest.now c.alone-in-queue.result (λ rest none. none) c.alone-in-queue.ensures.some)

pub returns-in_default-form-clause-none : goal.returns-in_default-form-clause-none
returns-in_default-form-clause-none c = no_word_no_form _ c.in-Some.form.now.now (said c.in-Some.rest.now) (said_begins c.args.words.now c.in-Some.form.now c.in-Some.rest.now _ c.in-Some.ensures.cases.0 refl) by where
  by : (work : Work) → ¬ (c.in-Some.form.now.now ≡ form_word work)
  by (Play pace brief press) = c.in_default-form.not-play
  by (Run pace locked patience) = c.in_default-form.not-run
  by Check = c.in_default-form.not-check
  by Plan = c.in_default-form.not-plan
  by (Make start seats lines) = c.in_default-form.not-make
  by (Migrate kind) = c.in_default-form.not-migrate
  by (Crew history) = c.in_default-form.not-crew
  by Queue = c.in_default-form.not-queue
