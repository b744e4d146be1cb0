-- The copies of spines: the collector's visits to marked fragments, the words of its copy, and what an array leaves as it swings to that.
pub mod Visits
pub mod CopyingStages
pub mod VisitsOn
pub mod InspectedWords
pub mod BegunArrays
pub mod CopyWords
pub mod CopyStores
pub mod CopyClaims
pub mod SwungWords
pub mod SwungSources
pub mod SwungObjects
pub mod SwungBook
pub mod SwungSeats
pub mod SwungSpace
