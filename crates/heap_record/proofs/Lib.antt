pub mod LastCycle
pub mod HeapEntries
pub mod Leading
pub mod Calls
pub mod Inners
pub mod MachineTurns
pub mod TurnsInRoom
pub mod TellsOne
