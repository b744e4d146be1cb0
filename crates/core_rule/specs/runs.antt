-- The laws over every run.
pub mod Laws
pub mod LoneLaws
pub mod TableLaws
