pub mod Causes
pub mod Turned
pub mod ManyTurned
