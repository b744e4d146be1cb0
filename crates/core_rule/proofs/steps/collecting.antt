-- Kinds of the inner calls of a collect.
pub mod BeginInner
pub mod FindSteps
pub mod NoteStep
use Rattle.core_machine.specs.declared.point.Collecting.{Collecting}
use Rattle.core_machine.specs.declared.point.Collecting.TheVariants.{Looking, Asking, Comparing, Noting}
use Rattle.core_machine.specs.declared.point.Point.TheVariants as points
use Rattle.core_rule.proofs.steps.StepKinds.{StepKind}

-- the kinds of step at its points
pub step_kind_of_collecting : (point : Collecting) → StepKind (points.Collecting point)
step_kind_of_collecting Looking = FindSteps.step_kind_of_looking
step_kind_of_collecting (Asking other) = FindSteps.step_kind_of_look_asking other
step_kind_of_collecting (Comparing other p) = FindSteps.step_kind_of_comparing other p
step_kind_of_collecting (Noting reply) = NoteStep.step_kind_of_noting reply
