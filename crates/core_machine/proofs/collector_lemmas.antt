-- The collector's own data go on fitting together, a file for each kind of turn, and a turn leaves a machine.
pub mod AdvanceTurn
pub mod BlackenTurn
pub mod ClearTurn
pub mod CopyingTurns
pub mod EndTurn
pub mod LookTurn
pub mod PassTurn
pub mod ScanTurn
pub mod ShadeTurn
pub mod SpineTurns
pub mod SweepTurn
pub mod Turning
pub mod Standing
pub mod Works
use Rattle.std.proofs.Common.{refl}
use Rattle.core_machine.proofs.Terms.{Heap, IsHeap}
use Rattle.core_machine.specs.declared.collector.stage.Stage.{Stage}
use Rattle.core_machine.specs.declared.collector.stage.Stage.TheVariants as stages
use Rattle.core_machine.specs.collector.Collector.{Collector, next_turn}
use Rattle.core_machine.specs.collector.FitsTurns.{CollectorFits}
use Rattle.core_machine.proofs.collector_lemmas.Standing.{StageStands, TurnStands}

-- each turn stands, by its stage
stands_at : (stage : Stage) → StageStands stage
stands_at stages.Looking = LookTurn.stage_stands_at_looking
stands_at (stages.Passing group found) = PassTurn.stage_stands_at_passing group found
stands_at (stages.Scanning scan) = ScanTurn.stage_stands_at_scanning scan
stands_at (stages.Shading scan target next) = ShadeTurn.stage_stands_at_shading scan target next
stands_at (stages.Addressing scan words) = SpineTurns.stage_stands_at_addressing scan words
stands_at (stages.Indexing s) = SpineTurns.stage_stands_at_indexing s
stands_at (stages.Spreading s target) = SpineTurns.stage_stands_at_spreading s target
stands_at (stages.Blackening scan) = BlackenTurn.stage_stands_at_blackening scan
stands_at stages.Flipping = CopyingTurns.stage_stands_at_flipping
stands_at (stages.Copying stage) = CopyingTurns.stage_stands_at_copying stage
stands_at (stages.Sweeping group) = SweepTurn.stage_stands_at_sweeping group
stands_at (stages.Examining group dead position words) = SweepTurn.stage_stands_at_examining group dead position words
stands_at (stages.Freeing group dead words) = SweepTurn.stage_stands_at_freeing group dead words
stands_at (stages.Returning group words) = SweepTurn.stage_stands_at_returning group words
stands_at (stages.Clearing group kept) = ClearTurn.stage_stands_at_clearing group kept
stands_at (stages.Ending kept) = EndTurn.stage_stands_at_ending kept
stands_at stages.Advancing = AdvanceTurn.stage_stands_at_advancing

-- the turn that is due
pub turn_stands : (heap : Heap) (collector : Collector) → IsHeap heap → CollectorFits heap collector → TurnStands heap (next_turn heap collector)
turn_stands heap collector limits fits = stands_at collector.stage heap collector limits fits refl fits.at_stage
