pub mod Answered
pub mod Emptied
pub mod Helping
pub mod Helps
pub mod InPlace
pub mod Owning
pub mod Parties
