use Rattle.std.proofs.Common.{refl, sym, subst}
use Rattle.heap_model.specs.declared.heap.Heap.{Heap}
use Rattle.heap_model.specs.Heap.{IsHeap}
use Rattle.core_machine.specs.machine.Opening.{IsOpening}
use Rattle.core_rule.specs.runs.Laws.{OneCallAtATime}
use Rattle.heap_record.proofs.Leading.{events_lead_to_start}
use Rattle.heap_runs.proofs.machine_heap.MachineHeap.make.Goals as goal

pub invariant_of-result : goal.invariant_of-result
invariant_of-result c =
    let machine = c.in_ok-machine.machine in
    let limits = subst IsHeap (sym c.in_ok-machine.ensures.heap) c.requires in
    let opens = subst (λ (h : Heap). IsOpening h machine.state) (sym c.in_ok-machine.ensures.heap) c.in_ok-machine.ensures.opening in
    rw c.new.ensures (events_lead_to_start OneCallAtATime machine.heap machine.state _ limits opens refl tt, record { same = refl; right = tt })
