pub mod Bearing
pub mod Granting
pub mod Locating
