use Rattle.std.proofs.Common.{◌∙◌}
use Rattle.std.proofs.lemmas.List.{length-map}
use Rattle.std.proofs.lemmas.List.Elements.{All-map}
use Rattle.locked_heap.specs.Given.{IsSeatScript}
use Rattle.locked_heap.proofs.running.run_locked.Goals as goal

pub run_named-requires-clause-given : goal.run_named-requires-clause-given
run_named-requires-clause-given g c κs within = record {
  limits = c.heap.ensures.machine.limits;
  opens = c.requires.opening;
  seated = length-map c.args.scripts.now _ ∙ c.requires.seated;
  scripts = All-map IsSeatScript _ c.args.scripts.now c.requires.scripts;
}
