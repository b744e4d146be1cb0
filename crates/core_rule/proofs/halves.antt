-- In which half of the spine space each spine stands.
pub mod CopiesGo
pub mod HalvesFrames
pub mod StagesOn
pub mod HalfSums
pub mod Leaving
pub mod Flips
pub mod LeftHalf
pub mod PhaseSpaces
pub mod HalvesMoves
pub mod HalvesBirths
