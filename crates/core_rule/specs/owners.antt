-- Whose each fragment and each spine word is.
pub mod Owners
