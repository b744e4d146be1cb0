use Rattle.std.proofs.Common.{ap, subst, sym}
use Rattle.crossbeam_queue.specs.Passes.{view}
use Rattle.script_crew.specs.declared.position_rule.Tally.{Tally}
use Rattle.script_crew.specs.Working.{HasRun, IsAtWork}
use Rattle.script_crew.proofs.worker.run_all.Goals as goal

pub run_popped-requires-clause-seat : goal.run_popped-requires-clause-seat
run_popped-requires-clause-seat g c κs within =
    subst (λ positions. IsAtWork c.args.site.now.jobs.now g.N.HeldName.table g.N.HeldName.heap positions c.args.worker.seat) (sym (ap (λ (one : Tally). one.popped) c.requires.fresh.pass.untouched)) c.requires.fresh.at_work

pub returns : goal.returns
returns g c = record {
  of_queue = c.in_ok-runs.ensures.queue;
  at_work = c.requires.fresh.at_work;
  ran = subst (λ one. HasRun c.args.site.now.jobs.now one (view c.run_popped.new.pass) c.args.worker.seat c.run_popped.new.seat c.in_ok-runs.runs.items) c.requires.fresh.pass.untouched c.in_ok-runs.ensures.ran;
}
