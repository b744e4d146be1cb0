use Rattle.std.proofs.Common.{◌≡◌, map, take}
use Rattle.heap_table.specs.SeatHeld.{SeatHeld}
use Rattle.heap_runs.proofs.running_seats.waits_of.Given as goal

-- the counts so far are those of the first seats
abbrev pub invariant-loop-seat : goal.invariant-loop-seat
invariant-loop-seat l = l.waits.items ≡ map (λ (held : SeatHeld). held.seat.looks.waits) (take l.seat-index l.seats)
