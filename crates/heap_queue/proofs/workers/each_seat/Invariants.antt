use Rattle.std.proofs.Common.{◌≡◌, map, ◌++◌, Ok}
use Rattle.heap_queue.proofs.workers.each_seat.Given as goal

-- the seats so far, and then what is left of the workers' ends
abbrev pub invariant-loop-seat : goal.invariant-loop-seat
invariant-loop-seat l = map (λ seat. Ok seat) l.back.items ++ l.seat-iterator.rest.items ≡ l.fn.done.items
