-- What a word that was loaded from a fragment or a spine tells.
use Rattle.std.specs.Prelude.{ℕ, ◌==◌, Bool, true, false, if◌then◌else◌, Option, Some, None, unwrap_or}
use Rattle.heap_words.specs.declared.cell.Cell.{Cell}
use Rattle.heap_words.specs.declared.kind.Kind.{Kind}
use Rattle.heap_words.specs.declared.kind.Kind.TheVariants as kinds
use Rattle.heap_words.specs.Cell.{cell_of}
pub use Rattle.heap_words.specs.Meta.{meta_pointer, array_length, length_of}

-- what a cell of this kind and value refers to
abbrev pub reference_of : Kind → ℕ → Option ℕ
reference_of kinds.Reference value = Some value
reference_of kinds.Nil value = None
reference_of kinds.Number value = None
reference_of kinds.Fixed value = None

-- the first fragment of the object that a field refers to
abbrev pub head_of : ℕ → Option ℕ
head_of word = reference_of (cell_of word).kind (cell_of word).value

-- where a fragment's first word of this kind leads
abbrev pub first_pointer : Kind → Cell → Option ℕ
first_pointer kinds.Reference cell = Some cell.value
first_pointer kinds.Fixed cell = meta_pointer cell
first_pointer kinds.Nil cell = None
first_pointer kinds.Number cell = None

-- where word `part` of a fragment leads: the first one by a link or a record's meta, each by a reference
abbrev pub pointer_in : ℕ → ℕ → Option ℕ
pointer_in part word = if part == 0 then first_pointer (cell_of word).kind (cell_of word) else head_of word

-- a cell of this kind is fixed
abbrev pub is_fixed : Kind → Bool
is_fixed kinds.Fixed = true
is_fixed kinds.Nil = false
is_fixed kinds.Number = false
is_fixed kinds.Reference = false

-- the word is an object's meta, where it is a fragment's first
abbrev pub is_meta : ℕ → Bool
is_meta word = is_fixed (cell_of word).kind

-- the length of an array, where a cell of this kind is its meta
abbrev pub array_length_in : Kind → Cell → Option ℕ
array_length_in kinds.Fixed cell = array_length cell
array_length_in kinds.Nil cell = None
array_length_in kinds.Number cell = None
array_length_in kinds.Reference cell = None

-- the length of the array whose meta the word is, where it is a fragment's first; no other word tells one
abbrev pub array_length_of : ℕ → Option ℕ
array_length_of word = array_length_in (cell_of word).kind (cell_of word)

-- the fragment after the one whose first word this is; 0 where it leads nowhere
abbrev pub link_of : ℕ → ℕ
link_of word = unwrap_or (pointer_in 0 word) 0

-- the stamp of a field
abbrev pub stamp_of : ℕ → ℕ
stamp_of word = (cell_of word).stamp

-- the fragment that a spine word names
abbrev pub payload_in : ℕ → ℕ
payload_in word = (cell_of word).value
