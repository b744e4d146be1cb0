use Rattle.heap_runs.specs.Collecting.{CollectGoesOn, StaysInCycle}
use Rattle.heap_runs.specs.MachineHeap.{IsBetweenCalls}
use Rattle.heap_runs.proofs.Waiting.{left_for}
use Rattle.heap_runs.proofs.machine_heap.MachineHeap.end_for.Given as goal

-- the collect goes on, and no cycle has ended
abbrev pub invariant-turns : goal.invariant-turns
invariant-turns l = record {
  goes : CollectGoesOn l.fn.self l.self l.seat;
  between : IsBetweenCalls l.self.machine.heap l.self.machine.state l.self.history;
  stays : StaysInCycle l.fn.self l.self;
}

-- fewer turns are left, or the seat has answered
abbrev pub decreases-turns : goal.decreases-turns
decreases-turns l = left_for l.self l.seat
