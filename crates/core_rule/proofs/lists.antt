-- Sums, tallies, lists and their members, options, facts that can be decided.
pub mod SumLemmas
pub mod Tallies
pub mod Members
pub mod GroupLists
pub mod OrderedLists
pub mod Options
pub mod Decided
