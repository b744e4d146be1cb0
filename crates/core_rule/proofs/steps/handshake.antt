-- Kinds that answer the phase, or leave.
pub mod PollStep
pub mod RootStep
pub mod AnswerTold
pub mod AnswerStep
pub mod EmptyStep
pub mod LeaveStep
use Rattle.core_machine.specs.declared.point.Polling.{Polling}
use Rattle.core_machine.specs.declared.point.Polling.TheVariants.{Asking, Shading, Answering}
use Rattle.core_machine.specs.declared.point.Leaving.{Leaving}
use Rattle.core_machine.specs.declared.point.Leaving.TheVariants.{Emptying, Parting}
use Rattle.core_machine.specs.declared.point.Point.TheVariants as points
use Rattle.core_rule.proofs.steps.StepKinds.{StepKind}

-- the kinds of step of a poll
pub step_kind_of_polling : (point : Polling) → StepKind (points.Polling point)
step_kind_of_polling Asking = PollStep.step_kind_of_poll_asking
step_kind_of_polling Shading = RootStep.step_kind_of_shading
step_kind_of_polling Answering = AnswerStep.step_kind_of_answering

-- the kinds of step of a leave
pub step_kind_of_leaving : (point : Leaving) → StepKind (points.Leaving point)
step_kind_of_leaving Emptying = EmptyStep.step_kind_of_emptying
step_kind_of_leaving Parting = LeaveStep.step_kind_of_parting
