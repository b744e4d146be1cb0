-- What is inside a cycle's footprint, and that it stays so.
pub mod Inside
pub mod Closed
pub mod Bounds
pub mod Brought
pub mod Named
pub mod StaysInside
pub mod NoneNew
pub mod FootprintGoes
pub mod CarryCycle
pub mod Mute
pub mod SeatCycle
pub mod StagesInside
pub mod CycleBegins
pub mod TurnCycle
