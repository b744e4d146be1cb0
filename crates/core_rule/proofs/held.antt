-- What is held is alive: a seat's, or a fragment of a kept object.
pub mod Alive
pub mod Holders
pub mod BodyWords
pub mod HeldFragments
pub mod FreedFragments
pub mod DueStores
pub mod WordOwners
pub mod HeldWordLaws
pub mod SpineThere
pub mod DueWords
