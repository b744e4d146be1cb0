-- What is reached as a graph grows.
pub mod RegisterIds
pub mod Growing
pub mod SeatGrowth
pub mod EntryGrowth
pub mod LaterGraphs
