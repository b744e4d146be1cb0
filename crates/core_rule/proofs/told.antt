-- What a seat is told: by its own list, and of the words that its steps find.
pub mod OwnLists
pub mod AsTold
pub mod NearPhases
pub mod OwnMetas
pub mod ReachedFields
pub mod StepsFind
pub mod FoundWords
pub mod StoredWords
