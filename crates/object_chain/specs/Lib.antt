pub mod Bearing
pub mod Due
pub mod FieldPlace
pub mod Naming
pub mod Walking
