-- Words of the table: where each stands, what it tells, and the words of a new object.
pub mod Fragments
pub mod Layout
pub mod Decode
pub mod Operation
