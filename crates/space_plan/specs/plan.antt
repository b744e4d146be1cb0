-- What a plan of space says of a history: of each cycle that ended, and of all of it.
pub mod Cycles
pub mod Moments
pub mod Report
pub mod Seats
pub mod Takes
pub mod Totals
pub mod Walking
