-- What a step does to the book.
pub mod Going
pub mod BookGoing
pub mod OwnersGo
pub mod BirthsGo
