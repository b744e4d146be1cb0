pub mod Births
pub mod MadeObjects
pub mod Born
pub mod FieldPlaces
pub mod Links
pub mod Named
