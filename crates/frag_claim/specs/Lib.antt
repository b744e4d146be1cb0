pub mod Begins
pub mod Due
pub mod Emptied
pub mod Gathered
