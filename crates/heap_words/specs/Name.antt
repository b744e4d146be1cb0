use Rattle.std.specs.Prelude.{ℕ, ◌%◌, ◌^◌, ◌<◌}
use Rattle.heap_words.specs.Cell.{cell_of, cell_word, fixed_cell}
use Rattle.heap_words.specs.declared.name.Name.{Name}

-- the owner is below 256, and the count below 2^32
abbrev pub IsName : Name → Type 0
IsName name = (name.owner < 2 ^ 8) × (name.count < 2 ^ 32)

-- the word of a name: a fixed cell whose value is the owner, and whose stamp is the count
abbrev pub name_word : Name → ℕ
name_word name = cell_word (fixed_cell name.owner name.count)

-- the name that a word tells, of whose cell's value eight bits are the owner
abbrev pub name_in : ℕ → Name
name_in word = record { owner = (cell_of word).value % 2 ^ 8; count = (cell_of word).stamp }
