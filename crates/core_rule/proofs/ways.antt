-- What loaded words tell, and the way to a field.
pub mod Told
pub mod SameCells
pub mod ArrayWords
pub mod KeptWords
pub mod Chains
pub mod LoadedObjects
pub mod Rows
pub mod WayFrames
pub mod LoadedPlaces
pub mod OnwardWays
pub mod AtObject
