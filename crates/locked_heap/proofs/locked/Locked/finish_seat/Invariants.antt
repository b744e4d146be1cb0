use Rattle.locked_heap.specs.Locked.{KeepsGone}
use Rattle.locked_heap.proofs.locked.Locked.finish_seat.Given as goal

-- who has left stays so
abbrev pub invariant-loop : goal.invariant-loop
invariant-loop g l = KeepsGone l.fn.self.seats l.self.seats
