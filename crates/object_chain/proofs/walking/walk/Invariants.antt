use Rattle.core_machine.specs.calls.Owes.{steps_left}
use Rattle.object_chain.proofs.Links.{WhileWalking}
use Rattle.object_chain.proofs.walking.walk.Given as goal

abbrev pub invariant-loop-step : goal.invariant-loop-step
invariant-loop-step g l = WhileWalking l.fn.head l.fn.meta l.fn.field l.fn.holder l.holder

abbrev pub decreases-loop-step : goal.decreases-loop-step
decreases-loop-step g l = steps_left l.holder.heap l.holder.seat
