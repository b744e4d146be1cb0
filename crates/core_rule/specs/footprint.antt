-- What a cycle may leave.
pub mod Footprint
