-- What was spelled is read again, as what it is, and what was not is none.
pub mod Answered
pub mod CommandReading
pub mod Digits
pub mod Limits
pub mod LineReread
pub mod LinesReread
pub mod Parts
pub mod Reread
pub mod Told
