-- The words of a record whose fields, and of an array whose cells were never set.
use Rattle.std.specs.Prelude.{ℕ, ◌+◌, ◌==◌, nat_lt, true, false, if◌then◌else◌, List, length, slice_index_or}
use Rattle.heap_words.specs.declared.kind.Kind.TheVariants.{Reference}
use Rattle.heap_words.specs.declared.name.Name.{Name}
use Rattle.heap_words.specs.declared.spot.Spot.{Spot}
use Rattle.heap_words.specs.Cell.{cell_word, fixed_cell}
use Rattle.heap_words.specs.Meta.{meta_word}
use Rattle.heap_words.specs.Name.{name_word}
use Rattle.heap_words.specs.Spot.{spot_word}

-- a link to a fragment
abbrev pub link_word : ℕ → ℕ
link_word fragment = cell_word (record { kind = Reference; value = fragment; stamp = 0 })

-- the link in fragment k of a record: to the one after it, and 0 in the last
abbrev pub link_after : List ℕ → ℕ → ℕ
link_after fragments k =
    if nat_lt (k + 1) (length fragments) then link_word (slice_index_or fragments (k + 1) 0) else 0

-- the meta of a record: its fields, and its second fragment, or 0 where it has one alone
abbrev pub record_meta : ℕ → List ℕ → ℕ
record_meta fields fragments = meta_word (record { array = false; length = fields; next = slice_index_or fragments 1 0 })

-- the words of a record's first fragment: its meta, its name, and two fields that were never set
abbrev pub head_word_of : Name → ℕ → List ℕ → ℕ → ℕ
head_word_of name fields fragments part =
    if part == 0 then record_meta fields fragments else if part == 1 then name_word name else 0

-- word `part` of fragment k of a record whose fields were never set
abbrev pub record_word_of : Name → ℕ → List ℕ → ℕ → ℕ → ℕ
record_word_of name fields fragments k part =
    if k == 0 then head_word_of name fields fragments part else if part == 0 then link_after fragments k else 0

-- the spine word that names a fragment
abbrev pub spine_word : ℕ → ℕ
spine_word fragment = cell_word (fixed_cell fragment 0)

-- the meta of an array
abbrev pub array_meta : ℕ → ℕ
array_meta cells = meta_word (record { array = true; length = cells; next = 0 })

-- the words of an array's first fragment: its meta, its name, the place of its spine, and a fixed word that tells nothing
abbrev pub sentinel_word_of : Name → ℕ → Spot → ℕ → ℕ
sentinel_word_of name cells spine part =
    if part == 0 then array_meta cells else if part == 1 then name_word name else if part == 2 then spot_word spine else cell_word (fixed_cell 0 0)

-- word `part` of fragment k of an array whose cells were never set, with its spine at this place
abbrev pub array_word_of : Name → ℕ → Spot → ℕ → ℕ → ℕ
array_word_of name cells spine k part = if k == 0 then sentinel_word_of name cells spine part else 0
