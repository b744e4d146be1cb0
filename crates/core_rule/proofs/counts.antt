-- What is free and in use.
pub mod FreeSums
pub mod FreeMoves
pub mod CountMoves
pub mod EffectSums
