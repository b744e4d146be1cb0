-- The collector's turns in a cycle: what the seats' steps leave of what marking has come to, what each turn leaves, and so what a run's turns come to.
pub mod Sums
pub mod LosesNothing
pub mod Writes
pub mod SeatEvents
pub mod Distinct
pub mod Lefts
pub mod CopyTurns
pub mod ScansLeft
pub mod MarkingTurns
pub mod PhaseTurns
pub mod SweepTurns
pub mod Turns
pub mod Runs
