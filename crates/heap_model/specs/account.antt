-- The account of space and phases: sums over a history, and the rules that each entry keeps.
pub mod Account
pub mod Books
pub mod Cycles
pub mod Effects
pub mod Noting
pub mod PhaseCounts
pub mod Phases
pub mod Preparing
pub mod Refusals
pub mod SeatBooks
pub mod Space
pub mod Sums
pub mod Sweep
pub mod Turned
pub mod Windows
