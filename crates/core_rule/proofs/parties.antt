-- What whole calls, inner calls and turns do to the parties, where no other step comes between.
pub mod MoreEvents
pub mod OneSeat
pub mod Collectors
pub mod Logs
pub mod InnerTold
pub mod Standing
pub mod TurnLogs
pub mod OpenedSeats
pub mod LeftStill
