-- What registers hold.
pub mod Registers
