pub mod Fields
pub mod Finding
pub mod Grey
pub mod Positions
