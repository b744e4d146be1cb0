-- The words of a heap's table, and where each of them stands.
use Rattle.std.specs.Prelude.{◌≡◌, ℕ, ◌+◌, ◌*◌, ◌^◌, ◌<◌, nat_lt, if◌then◌else◌, List, slice_index, slice_set}
use Rattle.heap_words.specs.declared.spot.Spot.{Spot as SpinePlace}
use Rattle.heap_model.specs.declared.heap.Heap.{Heap}
use Rattle.heap_model.specs.Limits.{group_fragments, most_seats}
use Rattle.core_machine.specs.declared.table.address.Address.{Address}
use Rattle.core_machine.specs.declared.table.address.Address.TheVariants.{Phase, Answer, Budget, Spot, Control, Word, Spine}

-- how many words the table has
abbrev pub table_length : Heap → ℕ
table_length heap = 19 + 65 * heap.groups + 4 * heap.spine

-- a spine word's place behind the fragments, half 0 before half 1; too large an offset has a place of its own past the table's end
abbrev pub spine_index : ℕ → ℕ → ℕ → ℕ
spine_index spine half offset = if nat_lt offset (2 * spine) then 2 * spine * half + offset else 2 * offset + half

-- where a word stands: the phase, sixteen answers, the budget, the spot, the control words, the fragments, the spine words
abbrev pub index_of : Heap → Address → ℕ
index_of heap Phase = 0
index_of heap (Answer seat) = 1 + seat
index_of heap Budget = 17
index_of heap Spot = 18
index_of heap (Control group) = 19 + group
index_of heap (Word fragment part) = 19 + heap.groups + 4 * fragment + part
index_of heap (Spine half offset) = 19 + 65 * heap.groups + spine_index heap.spine half offset

-- the address is one of the heap's; a spine word's offset is left open, since past the table's end 0 is read and nothing written
abbrev pub InTable : Heap → Address → Type 0
InTable heap Phase = Unit {0}
InTable heap (Answer seat) = seat < most_seats
InTable heap Budget = Unit {0}
InTable heap Spot = Unit {0}
InTable heap (Control group) = group < heap.groups
InTable heap (Word fragment part) = (fragment < group_fragments * heap.groups) × (part < 4)
InTable heap (Spine half offset) = half < 2

-- the table has a word at the address
abbrev pub HasWord : Heap → Address → Type 0
HasWord heap (Spine half offset) = (half < 2) × (offset < 2 * heap.spine)
HasWord heap address = InTable heap address

-- a spot that a word tells: its half is 0 or 1, and its offset below 2^31
pub record FitsSpot (spot : SpinePlace) : Type 0 where
  pub half_within : spot.half < 2
  pub offset_within : spot.offset < 2 ^ 31

-- the address of word k of the spine that begins at this spot
abbrev pub spine_place : SpinePlace → ℕ → Address
spine_place spot k = Spine spot.half (spot.offset + k)

-- the word at an address; 0 past the end of the table
unfoldable pub at : Heap → List ℕ → Address → ℕ
at heap words address = slice_index words (index_of heap address)

-- the words with another one at an address; as they are past the end of the table
unfoldable pub put : Heap → List ℕ → Address → ℕ → List ℕ
put heap words address word = slice_set words (index_of heap address) word

-- every word of the table is the same
abbrev pub SameTable : Heap → List ℕ → List ℕ → Type 0
SameTable heap old new = (address : Address) → InTable heap address → at heap new address ≡ at heap old address
