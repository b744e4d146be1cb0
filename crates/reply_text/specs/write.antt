-- How a history is spelled: the words of entries and of lines.
pub mod Entries
pub mod Lines
pub mod Counts
pub mod Brief
