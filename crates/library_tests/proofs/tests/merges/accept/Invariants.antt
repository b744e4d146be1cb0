use Rattle.std.proofs.Common.{◌≡◌, take}
use Rattle.heap_model.specs.account.Cycles.{graph_of}
use Rattle.heap_model.specs.graph.Legal.{IsObjectLegal}
use Rattle.library_tests.proofs.tests.merges.accept.Given as goal

abbrev pub invariant-loop-entry : goal.invariant-loop-entry
invariant-loop-entry l = record {
  grown : l.graph ≡ graph_of l.fn.heap (take l.entry-index l.entries);
  legal : IsObjectLegal l.fn.heap (take l.entry-index l.entries);
}
