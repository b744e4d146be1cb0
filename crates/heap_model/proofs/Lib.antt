pub mod account_lemmas
pub mod call_lemmas
pub mod graph_changes
pub mod graph_lemmas
pub mod Histories
