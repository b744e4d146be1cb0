-- What a walk over a history keeps with one more entry, and why enough groups refuse nothing.
pub mod CycleSums
pub mod Enough
pub mod Greatest
pub mod LegalFronts
pub mod MomentLemmas
pub mod ReachedIds
pub mod SeatSpaces
pub mod SeatSums
pub mod WalkLemmas
