-- What a step leaves of the heap and of other seats.
pub mod SeatFrames
pub mod BesideFrames
pub mod BudgetWritten
pub mod EntryFrames
pub mod Replying
pub mod GivingBack
pub mod ClaimTold
pub mod Recoloured
pub mod Freeing
pub mod Clearing
