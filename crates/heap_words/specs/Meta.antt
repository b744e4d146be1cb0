use Rattle.std.specs.Prelude.{◌≡◌, ℕ, ◌+◌, ◌%◌, ◌^◌, ◌<◌, ◌==◌, nat_lt, IsTrue, if◌then◌else◌, Option, Some, None}
use Rattle.heap_words.specs.Cell.{cell_of, cell_word, fixed_cell}
use Rattle.heap_words.specs.declared.cell.Cell.{Cell}
use Rattle.heap_words.specs.declared.meta.Meta.{Meta}

-- the length is below 8192, the next fragment below 65536, and an array has none
abbrev pub IsMeta : Meta → Type 0
IsMeta meta = (meta.length < 2 ^ 13) × (meta.next < 2 ^ 16) × (IsTrue meta.array → meta.next ≡ 0)

-- the word of a meta: a fixed cell whose value is the length, plus 2^29 for an array, and whose stamp is the next fragment
abbrev pub meta_word : Meta → ℕ
meta_word meta =
    cell_word (fixed_cell (if meta.array then 2 ^ 29 + meta.length else meta.length) meta.next)

-- where a record's meta leads: to its second fragment, where it has one; an array's leads nowhere
abbrev pub meta_pointer : Cell → Option ℕ
meta_pointer cell = if nat_lt cell.value (2 ^ 29) then (if cell.stamp == 0 then None else Some cell.stamp) else None

-- the length that a cell tells as an array's meta; as a record's it tells none
abbrev pub array_length : Cell → Option ℕ
array_length cell = if nat_lt cell.value (2 ^ 29) then None else Some (cell.value % 2 ^ 13)

-- the length that a meta's word tells
abbrev pub length_of : ℕ → ℕ
length_of word = (cell_of word).value % 2 ^ 13
