use Rattle.std.specs.Prelude.{ℕ, ◌%◌, ◌^◌, ◌<◌}
use Rattle.heap_words.specs.Cell.{cell_of, cell_word, fixed_cell}
use Rattle.heap_words.specs.declared.spot.Spot.{Spot}

-- the half is 0 or 1, and the offset is below 2^32
abbrev pub IsSpot : Spot → Type 0
IsSpot spot = (spot.half < 2) × (spot.offset < 2 ^ 32)

-- the word of a spot: a fixed cell whose value is the half, and whose stamp is the offset
abbrev pub spot_word : Spot → ℕ
spot_word spot = cell_word (fixed_cell spot.half spot.offset)

-- the spot that a word tells: one bit of its cell is the half, and thirty-one are the offset
abbrev pub spot_in : ℕ → Spot
spot_in word = record { half = (cell_of word).value % 2; offset = (cell_of word).stamp % 2 ^ 31 }
