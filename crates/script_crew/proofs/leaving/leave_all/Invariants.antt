use Rattle.std.proofs.Common.{◌≡◌, ◌++◌}
use Rattle.std.specs.Vec.Iter.{into_iter_items}
use Rattle.script_crew.specs.Leaving.{HaveLeft}
use Rattle.script_crew.proofs.leaving.leave_all.Given as goal

-- those so far have left
abbrev pub invariant-loop-seat : goal.invariant-loop-seat
invariant-loop-seat l = HaveLeft l.yielded l.gone.items × (l.yielded ++ into_iter_items l.seat-iterator ≡ l.fn.seats.items)
