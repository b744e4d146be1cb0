-- The objects that were made.
pub mod Objects
