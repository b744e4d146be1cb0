use Rattle.heap_runs.specs.Playing.{HaveLeft}
use Rattle.heap_runs.proofs.playing.leave_all.Given as goal

-- the seats so far have left
abbrev pub invariant-loop-seat : goal.invariant-loop-seat
invariant-loop-seat g l = HaveLeft l.script.heap (g.H.PlayHeap.state l.fn.whole) (g.H.PlayHeap.state l.whole) l.seat
