-- What is true while the collector marks, and while it sweeps after that.
pub mod Sources
pub mod Paths
pub mod Sweep
pub mod Marking
