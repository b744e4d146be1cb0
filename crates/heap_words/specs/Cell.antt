use Rattle.std.specs.Prelude.{ℕ, ◌+◌, ◌*◌, ◌/◌, ◌%◌, ◌^◌, ◌<◌}
use Rattle.heap_words.specs.Kind.{kind_number, kind_of}
use Rattle.heap_words.specs.declared.cell.Cell.{Cell}
use Rattle.heap_words.specs.declared.kind.Kind.TheVariants.{Fixed}

-- the value has at most thirty bits, and the stamp at most thirty-two
abbrev pub IsCell : Cell → Type 0
IsCell cell = (cell.value < 2 ^ 30) × (cell.stamp < 2 ^ 32)

-- the cell's word: from bit 62 on its kind, from bit 32 on its value, from bit 0 on its stamp
abbrev pub cell_word : Cell → ℕ
cell_word cell = kind_number cell.kind * 2 ^ 62 + cell.value * 2 ^ 32 + cell.stamp

-- the cell that a word is read as
abbrev pub cell_of : ℕ → Cell
cell_of word = record { kind = kind_of word; value = word / 2 ^ 32 % 2 ^ 30; stamp = word % 2 ^ 32 }

-- the fixed cell of a value and a stamp
abbrev pub fixed_cell : ℕ → ℕ → Cell
fixed_cell value stamp = record { kind = Fixed; value = value; stamp = stamp }
