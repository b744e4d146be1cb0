-- Kinds that make an object.
pub mod BeginStep
pub mod GrantStep
pub mod WithdrawStep
pub mod ClaimStep
pub mod GiveBackStep
pub mod ToldRefusal
pub mod RefusalStep
pub mod PlacingStep
pub mod ListingStep
pub mod StoreStep
pub mod BirthStep
pub mod LastBirthSpace
pub mod LastBirthStep
pub mod BearingStep
use Rattle.core_machine.specs.declared.point.Making.{Making}
use Rattle.core_rule.proofs.Terms.{Granting, Withdrawing, Gathering, GivingBack, Refusing, Placing, Listing, Bearing}
use Rattle.core_machine.specs.declared.point.Making.TheVariants.{Storing}
use Rattle.core_machine.specs.declared.point.Point.TheVariants as points
use Rattle.core_rule.proofs.steps.StepKinds.{StepKind}

-- the kinds of step at its points
pub step_kind_of_making : (point : Making) → StepKind (points.Making point)
step_kind_of_making Granting = GrantStep.step_kind_of_granting
step_kind_of_making Withdrawing = WithdrawStep.step_kind_of_withdrawing
step_kind_of_making Gathering = ClaimStep.step_kind_of_gathering
step_kind_of_making GivingBack = GiveBackStep.step_kind_of_returning
step_kind_of_making Refusing = RefusalStep.step_kind_of_refusing
step_kind_of_making Placing = PlacingStep.step_kind_of_placing
step_kind_of_making Listing = ListingStep.step_kind_of_listing
step_kind_of_making Storing = StoreStep.step_kind_of_storing
step_kind_of_making Bearing = BearingStep.step_kind_of_bearing
