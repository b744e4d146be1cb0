pub mod Calls
pub mod InnerCalls
pub mod Replies
pub mod Resting
pub mod Swaps
