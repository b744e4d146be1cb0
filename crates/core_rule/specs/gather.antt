-- What a gather knows of the groups that it has passed.
pub mod Gathers
