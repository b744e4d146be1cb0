-- What is reached as a graph grows.
pub mod GraphLaws
