use Rattle.std.proofs.Common.{◌≡◌, ◌++◌}
use Rattle.std.specs.Vec.Iter.{into_iter_items}
use Rattle.heap_queue.specs.Leaving.{EachLeaves}
use Rattle.heap_queue.proofs.leaving.leave_all.Given as goal

-- those so far have left
abbrev pub invariant-loop-seat : goal.invariant-loop-seat
invariant-loop-seat l = EachLeaves l.yielded l.gone.items × (l.yielded ++ into_iter_items l.seat-iterator ≡ l.fn.seats.items)
