use Rattle.heap_runs.specs.Turning.{IsNoWait, HasTurned}
use Rattle.heap_runs.proofs.turning.make_turns.Given as goal

-- the turns so far were made
abbrev pub invariant-loop : goal.invariant-loop
invariant-loop g l = HasTurned IsNoWait (g.H.PlayHeap.state l.fn.whole) (g.H.PlayHeap.state l.whole) l.counter
