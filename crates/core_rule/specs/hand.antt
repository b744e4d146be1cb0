-- What a seat has in its hand.
pub mod Holding
pub mod Together
