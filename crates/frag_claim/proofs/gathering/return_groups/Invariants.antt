use Rattle.core_machine.specs.calls.Owes.{steps_left}
use Rattle.frag_claim.proofs.Claims.{WhileGivingBack}
use Rattle.frag_claim.proofs.gathering.return_groups.Given as goal

abbrev pub invariant-loop-step : goal.invariant-loop-step
invariant-loop-step g l = WhileGivingBack l.fn.holder l.holder

abbrev pub decreases-loop-step : goal.decreases-loop-step
decreases-loop-step g l = steps_left l.holder.heap l.holder.seat
