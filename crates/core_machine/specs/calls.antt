-- Whole calls, by the seat's own data and its own list alone: what others do between its steps, and so the words, may be anything.
pub mod FieldReplies
pub mod InnerStage
pub mod Kept
pub mod Claims
pub mod Making
pub mod Owes
pub mod Reaching
pub mod Replies
pub mod ObjectReplies
pub mod OwnStage
