-- What a seat finds out by the inner calls of its collects.
pub mod Looks
pub mod Finds
