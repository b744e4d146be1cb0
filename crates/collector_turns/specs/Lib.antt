pub mod Collector
pub mod Turning
