-- How a graph reads after a change: a register, an object more, a cell set, a seat that left; and what a seat's own entries give of it.
pub mod Shapes
pub mod SameParties
pub mod PutRegister
pub mod GraphGrowth
pub mod GraphSeats
pub mod CellSet
pub mod GraphRegisters
pub mod LeftSeats
pub mod AgreeingGraphs
pub mod OwnGraphs
