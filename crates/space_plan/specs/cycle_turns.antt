-- How many turns the collector makes in a cycle.
pub mod ToldWords
pub mod MarkingLeft
pub mod CopyingLeft
pub mod CycleLeft
pub mod CountedTurns
pub mod CycleTurns
