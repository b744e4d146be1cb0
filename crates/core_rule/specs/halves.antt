-- The halves of the spine space.
pub mod Halves
