mod AccountLemmas
mod LegalLemmas
mod LineLemmas
pub mod Migrated
mod PassingLemmas
pub mod SameLogs
pub mod SetCounts
pub mod merge_lemmas
