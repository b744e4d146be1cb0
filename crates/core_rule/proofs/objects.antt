-- Kept objects, their words and names.
pub mod ObjectWords
pub mod CellWords
pub mod SpinePlaces
pub mod ObjectsSet
pub mod ObjectFrames
pub mod BoardFragment
pub mod Newborn
pub mod NamesGrowth
pub mod ObjectsGrowth
pub mod LastBirth
pub mod BoardKept
