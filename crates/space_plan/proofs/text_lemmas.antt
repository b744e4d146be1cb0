-- The lines of a plan as they are written.
pub mod Lines
pub mod Whole
