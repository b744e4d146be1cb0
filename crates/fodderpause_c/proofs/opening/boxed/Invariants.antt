use Rattle.fodderpause_c.proofs.Opened.{IsBoxing}
use Rattle.fodderpause_c.proofs.opening.boxed.Given as goal

abbrev pub invariant-loop-holder : goal.invariant-loop-holder
invariant-loop-holder l = IsBoxing l.fn.holders.items l.holder-iterator.rest.items l.boxes.items
