-- The spine words of arrays that are to be freed.
pub mod DeadWords
pub mod DyingWords
pub mod Settling
pub mod SweepSums
pub mod SweptSpace
