pub mod read
pub mod write
pub mod History
pub mod Values
pub mod Replies
pub mod Written
pub mod Migration
