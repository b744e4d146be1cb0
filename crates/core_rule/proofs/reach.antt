-- What is reached, as a list.
pub mod IdOrder
pub mod IdLists
pub mod ReachRounds
pub mod ReachLists
