-- Whose spine words are, and where the spines of arrays stand.
pub mod OtherWords
pub mod NoPlaces
pub mod SpineFrames
pub mod SpotWritten
pub mod SpotClaims
pub mod SpineStores
pub mod SpineBirths
pub mod ArrayBirths
pub mod ListedSources
