-- Where a seat stands on the way to a field.
pub mod Ways
