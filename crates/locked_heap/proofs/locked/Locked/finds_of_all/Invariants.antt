use Rattle.std.proofs.Common.{◌≡◌, ℕ, map}
use Rattle.std.specs.List.{range_with_len}
use Rattle.core_machine.specs.machine.Machine.{seat_at}
use Rattle.locked_heap.proofs.locked.Locked.finds_of_all.Given as goal

-- the seats so far have their counts
abbrev pub invariant-loop-seat : goal.invariant-loop-seat
invariant-loop-seat g l = l.finds.items ≡ map (λ (number : ℕ). (seat_at l.self.recorded.machine.state number).looks.waits) (range_with_len 0 l.seat)
