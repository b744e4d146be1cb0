pub mod Growing
pub mod Opened
