use Rattle.heap_queue.specs.Places.{Waits}
use Rattle.heap_queue.specs.Serving.{GoesOnBy, HasLooked}
use Rattle.heap_queue.proofs.finding.find_queue.Given as goal

-- the seat still waits
abbrev pub invariant-loop : goal.invariant-loop
invariant-loop g l = GoesOnBy 0 (HasLooked Waits) (g.S.SeatCalls.state l.fn.seat) (g.S.SeatCalls.state l.seat)
