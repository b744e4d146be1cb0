use Rattle.core_machine.specs.calls.Owes.{steps_left}
use Rattle.array_spine.proofs.Arrays.{WhilePlacing}
use Rattle.array_spine.proofs.bearing.bear_array.Given as goal

abbrev pub invariant-loop-step : goal.invariant-loop-step
invariant-loop-step g l = WhilePlacing l.fn.holder l.holder

abbrev pub decreases-loop-step : goal.decreases-loop-step
decreases-loop-step g l = steps_left l.holder.heap l.holder.seat
