pub mod Seats
pub mod Silence
pub mod Calling
pub mod Collected
pub mod Bounds
pub mod Refused
pub mod Pressed
