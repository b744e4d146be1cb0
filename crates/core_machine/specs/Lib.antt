pub mod calls
pub mod collector
pub mod machine
pub mod seat
pub mod table
pub mod Log
pub mod Move
pub mod Moves
