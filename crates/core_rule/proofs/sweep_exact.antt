-- That a cycle leaves no more than its footprint, and the last one nothing.
pub mod BeginSize
pub mod EndSize
pub mod EndWords
pub mod Leaving
pub mod EndsRightly
pub mod GoneSeats
pub mod AllGone
pub mod LastCycle
pub mod Reserves
pub mod Bringing
