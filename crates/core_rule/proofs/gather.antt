-- What a gather knows, and what a refusal shows.
pub mod GatherMoves
pub mod GatherSteps
pub mod SinceCall
pub mod Refusals
pub mod FreeGathers
