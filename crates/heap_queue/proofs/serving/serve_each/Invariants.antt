use Rattle.std.proofs.Common.{take}
use Rattle.heap_queue.specs.Serving.{GoesOnBy, ServesScript}
use Rattle.heap_queue.proofs.serving.serve_each.Given as goal

-- the commands so far are served
abbrev pub invariant-loop-n : goal.invariant-loop-n
invariant-loop-n g l = GoesOnBy l.n (ServesScript (g.S.SeatCalls.state l.fn.seat).number (take l.n l.script)) (g.S.SeatCalls.state l.fn.seat) (g.S.SeatCalls.state l.seat)
