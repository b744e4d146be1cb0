use Rattle.std.proofs.Common.{drop}
use Rattle.heap_model.specs.graph.Legal.{AcceptsAll}
use Rattle.heap_queue.specs.Stages.{AreNamed}
use Rattle.heap_queue.specs.TellerState.{HasDone, HasTold}
use Rattle.heap_queue.proofs.teller.tell_calls.Given as goal

abbrev pub invariant-loop-entry : goal.invariant-loop-entry
invariant-loop-entry l = record {
  told : HasTold l.fn.heap l.fn.history (drop l.entry-index l.fn.history) l.teller;
  done : HasDone l.fn.heap l.fn.history (drop l.entry-index l.fn.history) l.teller;
  legal : AcceptsAll l.teller.graph (drop l.entry-index l.fn.history);
  named : AreNamed l.teller.stages;
}
