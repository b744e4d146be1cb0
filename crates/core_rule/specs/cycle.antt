-- The phases of a cycle, and a seat's standing in them.
pub mod Phases
pub mod Flight
pub mod Cycle
