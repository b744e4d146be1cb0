-- The spines of arrays.
pub mod Spines
