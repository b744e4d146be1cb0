pub mod Arrays
pub mod Cells
pub mod Grants
pub mod Placed
