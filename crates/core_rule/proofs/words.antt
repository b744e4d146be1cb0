-- Words of the table, and the bits of a control word.
pub mod Addresses
pub mod BesideSpines
pub mod BitsLeft
pub mod WordBits
pub mod MaskLemmas
pub mod ClearLemmas
pub mod ControlLemmas
pub mod ControlSteps
pub mod MarkBits
pub mod MarkedPositions
pub mod SetBits
pub mod SweepBits
pub mod SweepWords
