pub mod read_lemmas
pub mod write_lemmas
pub mod Whole
pub mod SecondVersion
