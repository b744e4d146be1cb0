-- Kinds that read or write a field, or look at the registers alone.
pub mod BeginOthers
pub mod TellingStep
pub mod WaySteps
pub mod OpenStep
pub mod OnwardStep
pub mod LocateStep
pub mod IndexStep
pub mod GetStep
pub mod NameStep
pub mod OldStep
pub mod ShadeOldStep
pub mod ShadeNewStep
pub mod SwapStep
pub mod ShadeSideStep
pub mod CompareStep
use Rattle.core_machine.specs.declared.point.Access.{Access}
use Rattle.core_rule.proofs.Terms.{LoadingMeta, Walking, Indexing, Getting, LoadingOld, ShadingOld, ShadingNew, Swapping, ShadingSide, Replacing}
use Rattle.core_machine.specs.declared.point.Access.TheVariants.{LoadingSpot, Naming}
use Rattle.core_machine.specs.declared.point.Point.TheVariants as points
use Rattle.core_rule.proofs.steps.StepKinds.{StepKind}

-- the kinds of step at its points
pub step_kind_of_access : (point : Access) → StepKind (points.Access point)
step_kind_of_access LoadingMeta = OpenStep.step_kind_of_loading_meta
step_kind_of_access Walking = OnwardStep.step_kind_of_walking
step_kind_of_access LoadingSpot = LocateStep.step_kind_of_locating
step_kind_of_access Indexing = IndexStep.step_kind_of_indexing
step_kind_of_access Getting = GetStep.step_kind_of_getting
step_kind_of_access Naming = NameStep.step_kind_of_naming
step_kind_of_access LoadingOld = OldStep.step_kind_of_loading_old
step_kind_of_access ShadingOld = ShadeOldStep.step_kind_of_shading_old
step_kind_of_access ShadingNew = ShadeNewStep.step_kind_of_shading_new
step_kind_of_access Swapping = SwapStep.step_kind_of_swapping
step_kind_of_access (ShadingSide side) = ShadeSideStep.step_kind_of_shading_side side
step_kind_of_access Replacing = CompareStep.step_kind_of_replacing
