use Rattle.fodderpause_c.proofs.Filling.{IsFilling}
use Rattle.fodderpause_c.proofs.opening.put_all.Given as goal

abbrev pub invariant-loop-party : goal.invariant-loop-party
invariant-loop-party l = IsFilling l.fn.boxes.items l.boxes.items l.handles

abbrev pub decreases-loop-party : goal.decreases-loop-party
decreases-loop-party l = goal.left-loop-party l
