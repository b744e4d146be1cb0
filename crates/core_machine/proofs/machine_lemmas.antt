-- The state of a machine after a begin, a step, a turn, and at the opening.
pub mod BoardPlace
pub mod OpeningMachine
pub mod Opens
pub mod Parties
pub mod PartyRoom
pub mod PartySteps
pub mod Runs
pub mod SeatSteps
pub mod Stepping
