-- What seats find by the inner calls of their collects, as histories grow; and from where seats come to two of their points.
pub mod Words
pub mod Growth
pub mod Finding
pub mod Ways
pub mod Origins
pub mod Moves
pub mod Stays
pub mod Follows
pub mod Finds
