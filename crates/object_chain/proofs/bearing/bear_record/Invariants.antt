use Rattle.core_machine.specs.calls.Owes.{steps_left}
use Rattle.object_chain.proofs.Births.{WhileBearing}
use Rattle.object_chain.proofs.bearing.bear_record.Given as goal

abbrev pub invariant-loop-step : goal.invariant-loop-step
invariant-loop-step g l = WhileBearing l.fn.holder l.holder

abbrev pub decreases-loop-step : goal.decreases-loop-step
decreases-loop-step g l = steps_left l.holder.heap l.holder.seat
