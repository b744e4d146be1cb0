-- What the calls of a seat and of the collector add.
pub mod CollectorCalls
pub mod ManyTurns
pub mod SeatCalls
pub mod SeatLaws
pub mod SeatReplies
pub mod SeatState
