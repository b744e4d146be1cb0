pub mod TurnFacts
