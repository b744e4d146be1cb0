pub mod Settings
pub mod Works
pub mod Commands
pub mod Joined
pub mod Matched
