use Rattle.std.proofs.Common.{take}
use Rattle.heap_runs.specs.SeatWork.{GoesOn}
use Rattle.heap_runs.proofs.seat_work.make_all.Given as goal

-- the seat has made the commands so far
abbrev pub invariant-loop-n : goal.invariant-loop-n
invariant-loop-n g l = GoesOn l.patience l.fn.seat l.seat (take l.n l.script)
