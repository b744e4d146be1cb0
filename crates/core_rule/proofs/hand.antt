-- A seat's reserve, hand and new object.
pub mod Bodies
pub mod HandMoves
pub mod EmptyHand
pub mod ReserveGiven
pub mod GoesOn
pub mod ClaimOrder
pub mod MakingSeats
pub mod StoreLemmas
pub mod StoredFrames
