pub mod cycle_turns
pub mod plan_lemmas
pub mod text_lemmas
