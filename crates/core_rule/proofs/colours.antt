-- The colours of fragments, and where their sources lead.
pub mod MarkWords
pub mod SourceCases
pub mod LeadsFrames
pub mod NoSpines
pub mod NewbornLeads
pub mod NewbornArrays
pub mod Births
pub mod BirthColours
pub mod BirthAhead
pub mod LastColours
pub mod OneBit
pub mod ShadeColours
pub mod BlackenColours
pub mod SpineStays
pub mod BornBits
