-- What the calls of a seat add.
pub mod BoardLemmas
pub mod ManyTurnsLemmas
pub mod SeatCallLemmas
pub mod SeatGrowth
pub mod TurnLogs
