-- The fragments and the spine words of kept objects, counted.
pub mod KeptFragments
pub mod KeptSums
pub mod KeptReached
pub mod NewWords
pub mod WordSums
pub mod WeightGrowth
pub mod Clears
