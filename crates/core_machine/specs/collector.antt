-- The collector's turns.
pub mod Collector
pub mod Copying
pub mod CopyingTurns
pub mod FitsCopying
pub mod FitsTurns
pub mod Marking
pub mod MarkingTurns
pub mod Sweeping
pub mod SweepingTurns
pub mod TurnMove
