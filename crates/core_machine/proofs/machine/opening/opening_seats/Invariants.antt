use Rattle.std.proofs.Common.{◌≡◌, map}
use Rattle.std.specs.List.{range_with_len}
use Rattle.core_machine.proofs.Terms.{SeatWithRoom}
use Rattle.core_machine.specs.machine.Opening.{opening_seat}
use Rattle.core_machine.proofs.machine.opening.opening_seats.Given as goal

abbrev pub invariant-loop-number : goal.invariant-loop-number
invariant-loop-number g l = map (λ (s : SeatWithRoom). s.seat) l.seats.items ≡ map (opening_seat l.heap) (range_with_len 0 l.number)
