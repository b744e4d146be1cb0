pub mod Recorded
pub mod LastCycle
