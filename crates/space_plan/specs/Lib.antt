pub mod cycle_turns
pub mod plan
pub mod Text
