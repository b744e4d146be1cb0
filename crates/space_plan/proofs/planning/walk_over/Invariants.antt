use Rattle.std.proofs.Common.{◌≡◌, take}
use Rattle.space_plan.specs.plan.Walking.{Passed, WalkFits}
use Rattle.space_plan.proofs.planning.walk_over.Given as goal

abbrev pub invariant-loop-entry : goal.invariant-loop-entry
invariant-loop-entry l = record {
  passed : Passed l.walk (take l.entry-index l.entries);
  fits : WalkFits l.entry-index l.walk;
  heap : l.walk.ledger.heap ≡ l.fn.heap;
}
