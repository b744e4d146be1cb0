-- Words of the table, and bits of a control word.
pub mod Addresses
pub mod Bits
pub mod CellWords
pub mod Clear
pub mod Counting
pub mod DeadBits
pub mod Filters
pub mod FindLemmas
pub mod Free
pub mod Grey
pub mod Leading
pub mod Lengths
pub mod Masks
pub mod Owned
pub mod StepStands
pub mod Wide
pub mod WithinHeap
