-- The spine words that are granted.
pub mod Budgets
pub mod SpineLaws
