-- The copies of spines.
pub mod Replicas
