-- What is held.
pub mod Held
pub mod HeldWords
pub mod HeldLaws
