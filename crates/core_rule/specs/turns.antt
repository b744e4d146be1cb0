-- How many turns are left.
pub mod TurnsLeft
