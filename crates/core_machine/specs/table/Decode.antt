-- What a word that was loaded tells of the heap.
use Rattle.std.specs.Prelude.{ℕ, ◌-◌, ◌*◌, ◌<◌, ◌==◌, if◌then◌else◌, List, Option, IfSome}
use Rattle.std.specs.Option.{option_map_or}
use Rattle.heap_words.specs.declared.kind.Kind.{Kind}
use Rattle.heap_words.specs.declared.kind.Kind.TheVariants as kinds
use Rattle.heap_words.specs.Cell.{cell_of}
use Rattle.heap_words.specs.Loaded.{pointer_in, array_length_of, payload_in}
use Rattle.heap_words.specs.Name.{name_in}
use Rattle.heap_model.specs.declared.heap.Heap.{Heap}
use Rattle.heap_model.specs.declared.id.Id.{Id}
use Rattle.heap_model.specs.declared.id.Id.TheVariants.{Board, Made}
use Rattle.heap_model.specs.Limits.{group_fragments}
use Rattle.heap_model.specs.Needs.{array_words}
use Rattle.core_machine.specs.declared.table.address.Address.{Address}
use Rattle.core_machine.specs.declared.table.address.Address.TheVariants.{Phase, Answer, Budget, Spot, Control, Word, Spine}
use Rattle.core_machine.specs.declared.seat.register.Register.{Register}
use Rattle.core_machine.specs.declared.seat.register.Register.TheVariants.{Nil, Number}
use Rattle.core_machine.specs.table.Layout.{at, InTable}

-- how many words the spine of that array has; 0 where the word is no array's meta
abbrev pub spine_words_in : ℕ → ℕ
spine_words_in word = option_map_or array_words (array_length_of word) 0

-- the id in a name of this owner and count
abbrev pub id_of_owner : ℕ → ℕ → Id
id_of_owner owner count = if owner == 0 then Board else Made (owner - 1) count

-- the id in a name word
abbrev pub id_of : ℕ → Id
id_of word = id_of_owner (name_in word).owner (name_in word).count

-- what a register holds after it got a field of this kind and value that is no reference
abbrev pub plain_register : Kind → ℕ → Register
plain_register kinds.Number value = Number value
plain_register kinds.Nil value = Nil
plain_register kinds.Reference value = Nil
plain_register kinds.Fixed value = Nil

-- what a register holds after it got this word
abbrev pub plain_of : ℕ → Register
plain_of word = plain_register (cell_of word).kind (cell_of word).value

-- the fragment is one of the heap's, where there is one
abbrev pub IsWithinHeap : Heap → Option ℕ → Type 0
IsWithinHeap heap fragment = IfSome fragment (λ f. f < group_fragments * heap.groups)

-- the word found at the address leads within the heap: a fragment's word to a fragment or nowhere, a spine word to one
abbrev pub FoundPointsWithin : Heap → Address → ℕ → Type 0
FoundPointsWithin heap (Word fragment part) found = IsWithinHeap heap (pointer_in part found)
FoundPointsWithin heap (Spine half offset) found = payload_in found < group_fragments * heap.groups
FoundPointsWithin heap Phase found = Unit {0}
FoundPointsWithin heap (Answer seat) found = Unit {0}
FoundPointsWithin heap Budget found = Unit {0}
FoundPointsWithin heap Spot found = Unit {0}
FoundPointsWithin heap (Control group) found = Unit {0}

-- every word leads within the heap
abbrev pub PointersWithin : Heap → List ℕ → Type 0
PointersWithin heap words = (address : Address) → InTable heap address → FoundPointsWithin heap address (at heap words address)
