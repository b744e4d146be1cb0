use Rattle.locked_heap.proofs.GivenScripts.{given_are_scripts}
use Rattle.locked_heap.proofs.running.run_named.Goals as goal

pub work_all-requires-after_bounds : goal.work_all-requires-after_bounds
work_all-requires-after_bounds g c κs within = given_are_scripts g.N.Handed.given c.args.scripts.now c.requires.given c.requires.scripts
