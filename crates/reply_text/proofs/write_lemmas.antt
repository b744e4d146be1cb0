-- How the lines of a history are written, and which bytes they have.
pub mod Lines
pub mod MarkedText
pub mod WordsAbove
pub mod Briefs
