pub mod Debt
pub mod Slack
