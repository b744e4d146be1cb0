pub mod Faults
pub mod Left
pub mod Taken
pub mod MemInput
pub mod MemOutput
pub mod NeverOutput
pub mod Adapters
pub mod ReadAll
