pub mod Given
pub mod Progress
pub mod Locked
pub mod Ran
