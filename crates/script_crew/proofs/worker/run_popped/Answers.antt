use Rattle.std.proofs.Common.{◌≡◌, ◌<◌, length, get_or, sym, ap, subst, ◌∙◌, arith}
use Rattle.crossbeam_queue.specs.Passes.{view}
use Rattle.script_crew.specs.declared.job.Job.{Job}
use Rattle.script_crew.specs.declared.position_rule.Tally.{Tally}
use Rattle.script_crew.specs.Runs.{IsRunOn}
use Rattle.script_crew.specs.Working.{HasRun}
use Rattle.heap_runs.specs.SeatWork.{GoesOn}
use Rattle.script_crew.proofs.Calls.{may_run}
use Rattle.script_crew.proofs.PassMoves.{keeps-pop, settles}
use Rattle.script_crew.proofs.Portions.{script_here}
use Rattle.script_crew.proofs.Running.{has_used, none_run, one_more_run, stays_of_table}
use Rattle.script_crew.proofs.SameLists.{position_has_job, number_at}
use Rattle.script_crew.proofs.worker.run_popped.Goals as goal

pub pop_as-requires-clause-rule : goal.pop_as-requires-clause-rule
pop_as-requires-clause-rule g c = (keeps-pop _ _ (omega (arith, ap (λ (one : Tally). one.shares) c.loop.invariant.1.popped, c.requires.shares)), settles _ _)

pub bounds-site-position : goal.bounds-site-position
bounds-site-position g c =
    position_has_job c.args.site.now.jobs.now (view c.loop.pass) (view c.pop_as.new.pass) c.in-Some-pop_as.position (ap (λ (one : Tally). one.known) c.loop.invariant.1.popped ∙ c.requires.known) c.in-Some-pop_as.ensures.rule

pub run_job-requires-clause-table : goal.run_job-requires-clause-table
run_job-requires-clause-table g c κs within = stays_of_table g.N.HeldName.table g.N.HeldName.heap c.args.seat.now c.loop.seat _ c.requires.seat.of_table c.loop.invariant.1.goes_on

pub run_job-requires-clause-may : goal.run_job-requires-clause-may
run_job-requires-clause-may g c κs within =
    let jobs = c.args.site.now.jobs.now in
    let had = c.loop.invariant.1 in
    let position = c.in-Some-pop_as.position in
    let known = ap (λ (one : Tally). one.known) had.popped ∙ c.requires.known in
    let few : position < length jobs = position_has_job jobs (view c.loop.pass) (view c.pop_as.new.pass) position known c.in-Some-pop_as.ensures.rule in
    let job : Job = get_or jobs position c.index-site-position.result in
    may_run jobs (view c.loop.pass) (view c.pop_as.new.pass) position job c.loop.seat c.requires.jobs known c.in-Some-pop_as.ensures.rule few
    (ap (get_or jobs position) c.index-site-position.is) (has_used jobs (view c.args.pass.now) (view c.loop.pass) c.args.seat.now c.loop.seat c.loop.runs.items had c.requires.seat.used) had.goes_on.present

pub loop-init : goal.loop-init
loop-init g c = (c.requires.queue, none_run c.args.site.now.jobs.now (view c.args.pass.now) c.args.seat.now _ c.requires.seat.present c.new-runs.ensures.items)

pub loop-preserved : goal.loop-preserved
loop-preserved g c =
    let jobs = c.args.site.now.jobs.now in
    let had = c.loop.invariant.1 in
    let position = c.in-Some-pop_as.position in
    let job : Job = get_or jobs position c.index-site-position.result in
    let is : job ≡ get_or jobs position job = ap (get_or jobs position) c.index-site-position.is in
    let run = c.in_ok-run-in-Some-pop_as.run' in
    let ran = c.in_ok-run-in-Some-pop_as.ensures in
    let few : position < length jobs = position_has_job jobs (view c.loop.pass) (view c.pop_as.new.pass) position (ap (λ (one : Tally). one.known) had.popped ∙ c.requires.known) c.in-Some-pop_as.ensures.rule in
    let on : IsRunOn jobs c.run_job.new.seat run = record { job = job; of_jobs = (position, few, sym is); of_job = ran.ran } in (
      (c.in-Some-pop_as.ensures.queue.0 ∙ c.loop.invariant.0.0, c.in-Some-pop_as.ensures.queue.2 ∙ c.loop.invariant.0.1),
      subst (HasRun jobs (view c.args.pass.now) (view c.pop_as.new.pass) c.args.seat.now c.run_job.new.seat) (sym c.in_ok-push-in-Some-pop_as.ensures.items)
          (one_more_run jobs (view c.args.pass.now) (view c.loop.pass) (view c.pop_as.new.pass) c.args.seat.now c.loop.seat c.run_job.new.seat c.loop.runs.items position run had c.in-Some-pop_as.ensures.rule
          (subst (GoesOn 1 c.loop.seat c.run_job.new.seat) (script_here jobs position job few is) ran.seat) on ran.begins (ran.ran.job_is ∙ number_at jobs position job few is)),
    )
