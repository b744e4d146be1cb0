-- The graph that only grows, and what is reached in it.
pub mod Among
pub mod EqualTests
pub mod FoundLemmas
pub mod Heads
pub mod InOrder
pub mod MadeLemmas
pub mod MarkLemmas
pub mod NoteLemmas
pub mod OrderLemmas
pub mod PositionLemmas
pub mod SearchLemmas
pub mod WalkLemmas
