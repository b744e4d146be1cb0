use Rattle.std.proofs.Common.{sym, subst}
use Rattle.heap_record.specs.Recorded.{Recorded}
use Rattle.heap_runs.specs.Collecting.{MayGoOn}
use Rattle.heap_runs.proofs.Between.{between_after_inner}
use Rattle.heap_runs.proofs.Noting.{notes_rightly_after_inner}
use Rattle.heap_runs.proofs.machine_heap.MachineHeap.make_inner.Goals as goal

pub invariant_of-self-2 : goal.invariant_of-self-2
invariant_of-self-2 c =
    let may = subst (λ (v : Recorded). MayGoOn v c.args.seat c.args.inner) (sym c.self.view_is) c.requires.may in
    let old = c.self.inside.recorder in
    let new = c.inner.new.self in
    let makes = c.in_ok-inner.ensures.makes in
    (between_after_inner old new c.self.invariant.0 c.args.seat c.args.inner makes may.now, notes_rightly_after_inner old new c.self.invariant.1 c.args.seat c.args.inner makes)
