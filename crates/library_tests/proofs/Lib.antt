pub mod FirstCalls
pub mod CallSteps
pub mod OfTable
pub mod Players
pub mod Popped
