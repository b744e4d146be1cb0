use Rattle.std.proofs.Common.{ℕ, ◌<◌}
use Rattle.locked_heap.specs.Locked.{SeatHasLeft}
use Rattle.locked_heap.proofs.locked.Locked.finish_all.Given as goal

-- the seats so far have left
abbrev pub invariant-loop-seat : goal.invariant-loop-seat
invariant-loop-seat g l = (number : ℕ) → number < l.seat → SeatHasLeft l.self.seats number
