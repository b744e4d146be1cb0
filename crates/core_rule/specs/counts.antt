-- What the history says of a seat, counted.
pub mod Counts
