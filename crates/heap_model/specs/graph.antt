-- The graph that only grows: objects, replies, what is reached.
pub mod Changes
pub mod Growth
pub mod Legal
pub mod Marking
pub mod Objects
pub mod Reach
pub mod Replies
pub mod Search
pub mod Sizes
pub mod Walks
pub mod Graph
pub mod OwnGraphs
