use Rattle.std.proofs.Common.{ℕ}
use Rattle.heap_runs.specs.Turning.{IsStep, HasTurned}
use Rattle.heap_runs.proofs.turning.end_cycle.Given as goal

-- some steps were made so far
abbrev pub invariant-loop-turn : goal.invariant-loop-turn
invariant-loop-turn g l = (n : ℕ) × HasTurned IsStep (g.H.PlayHeap.state l.fn.whole) (g.H.PlayHeap.state l.whole) n

-- fewer turns are left
abbrev pub decreases-loop-turn : goal.decreases-loop-turn
decreases-loop-turn g l = (g.H.PlayHeap.state l.whole).turns_left
