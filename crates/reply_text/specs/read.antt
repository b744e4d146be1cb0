-- How the text of a history is read: parts, answers, entries, lines, and what is wrong with one.
pub mod Answers
pub mod Body
pub mod Commands
pub mod EntryWords
pub mod Faults
pub mod LineWords
pub mod Parts
pub mod Stages
pub mod Tokens
pub mod TurnAnswers
