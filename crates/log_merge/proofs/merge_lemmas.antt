-- The exchange of neighbours, and what is left of logs.
pub mod Changes
pub mod Commuting
pub mod Counting
pub mod Exchange
pub mod FewSets
pub mod Finding
pub mod Kinds
pub mod MergerLemmas
pub mod Merges
pub mod Moving
pub mod Parts
pub mod Places
pub mod Rests
pub mod Sound
pub mod SoundChanges
pub mod Touching
pub mod Waiting
