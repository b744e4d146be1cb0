pub mod Calls
pub mod Presses
pub mod Refusals
