use Rattle.heap_runs.specs.CollectCall.{LooksAround}
use Rattle.heap_runs.proofs.seat_collect.find_reply.Given as goal

-- the seat has looked around
abbrev pub invariant-loop : goal.invariant-loop
invariant-loop g l = LooksAround l.fn.seat l.seat
