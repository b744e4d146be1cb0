use Rattle.heap_runs.proofs.Noting.{notes_rightly_still}
use Rattle.heap_record.proofs.Leading.{events_lead_on_still}
use Rattle.core_rule.specs.runs.Laws.{OneCallAtATime}
use Rattle.heap_runs.proofs.machine_heap.MachineHeapPlayHeap.room.Goals as goal

pub invariant_of-self : goal.invariant_of-self
invariant_of-self c =
    let old = c.self.inside.recorder in
    (events_lead_on_still OneCallAtATime old c.room.new.self c.self.invariant.0 c.room.ensures.still, notes_rightly_still old c.room.new.self c.self.invariant.1 c.room.ensures.still)
