-- That a cycle leaves no more.
pub mod SweepLaws
