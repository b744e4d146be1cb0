-- Whose a fragment is.
pub mod OwnerLemmas
pub mod Handed
pub mod Keeping
pub mod KeptOwners
pub mod OwnerFrames
pub mod Seated
pub mod DeadOwners
