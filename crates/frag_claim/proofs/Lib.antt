pub mod Claims
pub mod Gathers
pub mod GivesBack
pub mod Begun
