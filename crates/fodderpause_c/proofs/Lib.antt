pub mod Bools
pub mod Boxes
pub mod Filling
pub mod HasGone
pub mod Opened
pub mod Refused
