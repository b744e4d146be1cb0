-- The spine words that are granted, and that these have a place.
pub mod NoneMade
pub mod SameBooks
pub mod BudgetFrames
pub mod BudgetSteps
pub mod WeightSums
pub mod OffsetWithin
pub mod UsedWords
pub mod UsedFound
pub mod IdleBudgets
