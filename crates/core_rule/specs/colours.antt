-- The colours of fragments.
pub mod Colours
