-- The heap's and a seat's standing in a cycle.
pub mod CycleFrames
pub mod CycleHistory
pub mod Unwatched
pub mod Barriers
pub mod FreshCycle
pub mod MakingCycle
pub mod BirthCycle
pub mod FieldFrames
pub mod AnswerWords
pub mod SwapCycle
pub mod NextPhase
