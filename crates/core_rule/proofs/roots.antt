-- The roots of seats and of calls, to which marking comes.
pub mod Roots
pub mod CallRoots
pub mod RegisterRoots
pub mod GoneRoots
pub mod SeatRoots
