-- The roots of a seat.
pub mod Roots
