-- What a seat has by its own list, and what it is told of words.
pub mod Told
pub mod Reached
pub mod Found
