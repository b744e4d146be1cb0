use Rattle.crossbeam_queue.specs.Passes.{view, IsPassOf}
use Rattle.script_crew.specs.Working.{HasRun}
use Rattle.script_crew.proofs.worker.run_popped.Given as goal

abbrev pub invariant-loop : goal.invariant-loop
invariant-loop g l = IsPassOf l.site.queue.now l.pass × HasRun l.site.jobs.now (view l.fn.pass) (view l.pass) l.fn.seat l.seat l.runs.items
