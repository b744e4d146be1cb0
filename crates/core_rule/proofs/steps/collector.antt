-- Kinds of turns of the collector, a file for each, which hands over all that is asked of the kind, and the one table of them by stage.
pub mod PassStep
pub mod FlipStep
pub mod AdvanceStep
pub mod PhaseTurn
pub mod ColourTurn
pub mod BlackenStep
pub mod LookStep
pub mod MarkedTarget
pub mod MarkShadeStep
pub mod ScanStep
pub mod AddressStep
pub mod IndexStep
pub mod SpreadStep
pub mod VisitStep
pub mod InspectStep
pub mod FindStep
pub mod CopyClaimStep
pub mod CopyLoadStep
pub mod CopyStoreStep
pub mod SwingStep
pub mod SweepStep
pub mod FreeBits
pub mod FreeStep
pub mod ReturnStep
pub mod ClearStep
pub mod EndStep
use Rattle.core_machine.specs.declared.collector.stage.Copying.{Copying}
use Rattle.core_machine.specs.declared.collector.stage.Copying.TheVariants as copying
use Rattle.core_rule.proofs.Terms.{Stage}
use Rattle.core_machine.specs.declared.collector.stage.Stage.TheVariants as stages
use Rattle.core_rule.proofs.steps.TurnKinds.{TurnKind}

-- the kind of turn at each stage of copying
copying_kind : (stage : Copying) → TurnKind (stages.Copying stage)
copying_kind (copying.Visiting group) = VisitStep.turn_kind_of_copy_visiting group
copying_kind (copying.Inspecting visit) = InspectStep.turn_kind_of_copy_inspecting visit
copying_kind (copying.Naming visit words) = FindStep.turn_kind_of_copy_naming visit words
copying_kind (copying.Locating array) = FindStep.turn_kind_of_copy_locating array
copying_kind (copying.Claiming array from) = CopyClaimStep.turn_kind_of_copy_claiming array from
copying_kind (copying.Loading copy) = CopyLoadStep.turn_kind_of_copy_loading copy
copying_kind (copying.Storing copy word) = CopyStoreStep.turn_kind_of_copy_storing copy word
copying_kind (copying.Swinging copy) = SwingStep.turn_kind_of_copy_swinging copy

-- the kind of turn at each stage
pub turn_kind_of_each_stage : (stage : Stage) → TurnKind stage
turn_kind_of_each_stage stages.Looking = LookStep.turn_kind_of_looking
turn_kind_of_each_stage (stages.Passing group found) = PassStep.turn_kind_of_passing group found
turn_kind_of_each_stage (stages.Scanning scan) = ScanStep.turn_kind_of_scanning scan
turn_kind_of_each_stage (stages.Shading scan target next) = MarkShadeStep.turn_kind_of_shading scan target next
turn_kind_of_each_stage (stages.Addressing scan count) = AddressStep.turn_kind_of_addressing scan count
turn_kind_of_each_stage (stages.Indexing s) = IndexStep.turn_kind_of_indexing s
turn_kind_of_each_stage (stages.Spreading s target) = SpreadStep.turn_kind_of_spreading s target
turn_kind_of_each_stage (stages.Blackening scan) = BlackenStep.turn_kind_of_blackening scan
turn_kind_of_each_stage stages.Flipping = FlipStep.turn_kind_of_flipping
turn_kind_of_each_stage (stages.Copying stage) = copying_kind stage
turn_kind_of_each_stage (stages.Sweeping group) = SweepStep.turn_kind_of_sweeping group
turn_kind_of_each_stage (stages.Examining group dead position counted) = SweepStep.turn_kind_of_examining group dead position counted
turn_kind_of_each_stage (stages.Freeing group dead counted) = FreeStep.turn_kind_of_freeing group dead counted
turn_kind_of_each_stage (stages.Returning group counted) = ReturnStep.turn_kind_of_returning group counted
turn_kind_of_each_stage (stages.Clearing group kept) = ClearStep.turn_kind_of_clearing group kept
turn_kind_of_each_stage (stages.Ending kept) = EndStep.turn_kind_of_ending kept
turn_kind_of_each_stage stages.Advancing = AdvanceStep.turn_kind_of_advancing
