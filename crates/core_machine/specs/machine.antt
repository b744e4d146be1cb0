-- States, events and runs, the opening, and whole calls.
pub mod Calls
pub mod InnerCalls
pub mod Machine
pub mod Opening
pub mod Sums
pub mod Value
