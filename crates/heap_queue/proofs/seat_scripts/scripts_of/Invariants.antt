use Rattle.std.proofs.Common.{◌≡◌, map}
use Rattle.std.specs.List.{range_with_len}
use Rattle.heap_queue.specs.SeatScripts.{commands_of}
use Rattle.heap_queue.proofs.seat_scripts.scripts_of.Given as goal

-- the seats so far have their scripts
abbrev pub invariant-loop-seat : goal.invariant-loop-seat
invariant-loop-seat l = map (λ s. s.items) l.scripts.items ≡ map (λ number. commands_of number l.script.lines) (range_with_len 0 l.seat)
