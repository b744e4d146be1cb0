use Rattle.std.proofs.Common.{◌≡◌, ap, subst, ◌∙◌, sym}
use Rattle.std.specs.Prelude.{All, IfOk, vec_len}
use Rattle.script_crew.specs.declared.position_rule.Tally.{Tally}
use Rattle.script_crew.specs.Working.{HasFreshPass, HasRunAll}
use Rattle.script_crew.proofs.WholeCrew.{as_many, workers_are_fresh, workers_are_numbered}
use Rattle.script_crew.proofs.crew.run_jobs.Goals as goal

pub work_all-requires-clause-task : goal.work_all-requires-clause-task
work_all-requires-clause-task g c κs within =
    let workers = c.in_ok-workers.workers in
    let seats = c.args.seats in
    let many : vec_len seats ≡ vec_len workers = seats.ok.0 ∙ (sym (as_many workers.items seats.items c.in_ok-workers.ensures.seats) ∙ sym workers.ok.0) in (
      workers_are_fresh c.in_ok-queue.queue c.args.jobs.now g.N.HeldName.table g.N.HeldName.heap workers.items seats.items
          (subst (λ known. All (HasFreshPass c.in_ok-queue.queue known) workers.items) (ap (λ (one : Tally). one.known) c.push_positions.ensures.pushed) c.in_ok-workers.ensures.passes)
          c.in_ok-workers.ensures.seats c.requires.fresh,
      workers_are_numbered workers.items seats.items _ _ c.in_ok-workers.ensures.seats c.requires.numbered many,
    )

pub run_rest-requires-clause-ended : goal.run_rest-requires-clause-ended
run_rest-requires-clause-ended g c κs within = (_, c.in_ok-done.ensures)

pub returns : goal.returns
returns g c = subst (λ seats. IfOk c.run_rest.result (HasRunAll c.args.jobs.now g.N.HeldName.table g.N.HeldName.heap seats)) c.in_ok-workers.ensures.seats (c.run_rest.ensures _ c.in_ok-done.ensures)
