-- The objects that were made, and the words of those that are kept.
use Rattle.std.specs.Prelude.{◌≡◌, ℕ, ◌+◌, ◌-◌, ◌*◌, ◌^◌, ◌==◌, ◌<◌, ◌≤◌, Bool, true, false, nat_lt, if◌then◌else◌, List, length, slice_get, Option, Some, None}
use Rattle.heap_words.specs.declared.kind.Kind.TheVariants as kinds
use Rattle.heap_words.specs.declared.name.Name.{Name}
use Rattle.heap_words.specs.declared.spot.Spot.{Spot}
use Rattle.heap_words.specs.Cell.{cell_word}
use Rattle.heap_model.specs.declared.heap.Heap.{Heap}
use Rattle.heap_model.specs.declared.graph.cell.Cell.{Cell}
use Rattle.heap_model.specs.declared.id.Id.{Id}
use Rattle.heap_model.specs.declared.id.Id.TheVariants.{Board, Made}
use Rattle.heap_model.specs.declared.id.Value.{Value}
use Rattle.heap_model.specs.declared.id.Value.TheVariants.{Nil, Number, Object}
use Rattle.heap_model.specs.graph.Objects.{node}
use Rattle.heap_model.specs.graph.Graph.{Graph, Node, fresh}
use Rattle.heap_model.specs.graph.Sizes.{fragments_of, spine_words_of}
use Rattle.heap_model.specs.graph.Reach.{IsMade}
use Rattle.heap_model.specs.Limits.{most_fields, most_cells}
use Rattle.core_machine.specs.declared.table.address.Address.TheVariants.{Word}
use Rattle.core_machine.specs.table.Layout.{at, spine_place}
use Rattle.heap_words.specs.Newborn.{record_word_of, sentinel_word_of, spine_word}
use Rattle.core_rule.specs.owners.Owners.{Owner, Kept}
use Rattle.core_rule.specs.Book.{fragment_at, id_at, object_number, object_head}

-- the id fits into a name
abbrev pub FitsName : Id → Type 0
FitsName Board = Unit {0}
FitsName (Made s count) = (s < 255) × (count < 2 ^ 32)

-- the list has exactly the ids of the graph's objects, each once, the board first
pub record AreMade (g : Graph) (made : List Id) : Type 0 where
  pub board : slice_get made 0 ≡ Some Board
  pub in_graph : (i : ℕ) → i < length made → IsMade g (id_at made i)
  pub numbered : (id : Id) → IsMade g id → (object_number made id < length made) × (id_at made (object_number made id) ≡ id)
  pub distinct : (i : ℕ) → i < length made → object_number made (id_at made i) ≡ i
  pub fit : (i : ℕ) → i < length made → FitsName (id_at made i)

-- the name of an object: 0 for the board, and else its maker's number plus 1, with its count
abbrev pub name_of : Id → Name
name_of Board = record { owner = 0; count = 0 }
name_of (Made s count) = record { owner = s + 1; count = count }

-- the word of a cell with this value and stamp, a reference being the object's first fragment
abbrev pub value_word : (Id → ℕ) → Value → ℕ → ℕ
value_word head Nil stamp = cell_word (record { kind = kinds.Nil; value = 0; stamp = stamp })
value_word head (Number n) stamp = cell_word (record { kind = kinds.Number; value = n; stamp = stamp })
value_word head (Object id) stamp = cell_word (record { kind = kinds.Reference; value = head id; stamp = stamp })

-- the word of a cell, and 0 where there is none
abbrev pub field_word : (Id → ℕ) → Option Cell → ℕ
field_word head None = 0
field_word head (Some cell) = value_word head cell.value cell.stamp

-- whether word `part` of a record's fragment k is a cell's: it is neither meta, name nor link
abbrev pub is_cell : ℕ → ℕ → Bool
is_cell k part = if k == 0 then nat_lt 1 part else nat_lt 0 part

-- word `part` of fragment k of a record with these cells
unfoldable pub record_object_word : (Id → ℕ) → Name → List Cell → List ℕ → ℕ → ℕ → ℕ
record_object_word head name cells fragments k part =
    if is_cell k part then field_word head (slice_get cells (3 * k + part - 2)) else record_word_of name (length cells) fragments k part

-- word `part` of fragment k of an array with these cells and its spine here: each fragment but the first has four cells
unfoldable pub array_object_word : (Id → ℕ) → Name → List Cell → Spot → ℕ → ℕ → ℕ
array_object_word head name cells spine k part =
    if k == 0 then sentinel_word_of name (length cells) spine part else field_word head (slice_get cells (4 * (k - 1) + part))

-- word `part` of fragment k of an object
abbrev pub object_word : (Id → ℕ) → Name → Node → Spot → List ℕ → ℕ → ℕ → ℕ
object_word head name object spine fragments k part =
    if object.array then array_object_word head name object.cells spine k part else record_object_word head name object.cells fragments k part

-- the object, and a record without cells where there is none
abbrev pub node_in : Option Node → Node
node_in None = fresh false 0
node_in (Some object) = object

-- a record has at least one field and at most forty-seven, an array at least one cell and at most 4,096
abbrev pub IsSized : Bool → ℕ → Type 0
IsSized true cells = (1 ≤ cells) × (cells ≤ most_cells)
IsSized false fields = (1 ≤ fields) × (fields ≤ most_fields)

-- the object of this number is kept: its first fragment is
abbrev pub IsKept : (ℕ → Owner) → (ℕ → List ℕ) → ℕ → Type 0
IsKept owner fragments i = owner (fragment_at (fragments i) 0) ≡ Kept i 0

-- a value names a kept object, or is a number of at most thirty bits, or nothing
abbrev pub NamesKept : List Id → (ℕ → Owner) → (ℕ → List ℕ) → Value → Type 0
NamesKept made owner fragments Nil = Unit {0}
NamesKept made owner fragments (Number n) = n < 2 ^ 30
NamesKept made owner fragments (Object id) = (object_number made id < length made) × IsKept owner fragments (object_number made id)

-- a kept object's fragments are its own and have the words of its name and cells, and an array's spine words name its payload
pub record KeptObject (heap : Heap) (words : List ℕ) (owner : ℕ → Owner) (head : Id → ℕ) (i : ℕ) (id : Id) (object : Node) (fragments : List ℕ) (spine : Spot) : Type 0 where
  pub sized : IsSized object.array (length object.cells)
  pub whole : length fragments ≡ fragments_of object
  pub owned : (k : ℕ) → k < length fragments → owner (fragment_at fragments k) ≡ Kept i k
  pub stored : (k part : ℕ) → k < length fragments → part < 4
      → at heap words (Word (fragment_at fragments k) part) ≡ object_word head (name_of id) object spine fragments k part
  pub listed : (j : ℕ) → j < spine_words_of object → at heap words (spine_place spine j) ≡ spine_word (fragment_at fragments (j + 1))

-- the object of this number
abbrev pub node_at : Graph → List Id → ℕ → Node
node_at g made i = node_in (node g (id_at made i))

-- the cells of the object of this number
abbrev pub cells_at : Graph → List Id → ℕ → List Cell
cells_at g made i = (node_at g made i).cells

-- the kept objects have the graph's cells, and each fragment that is kept is one of theirs; the board begins with fragment 0
pub record Objects (heap : Heap) (words : List ℕ) (g : Graph) (made : List Id) (owner : ℕ → Owner) (fragments : ℕ → List ℕ) (spines : ℕ → Spot) : Type 0 where
  pub kept : (i : ℕ) → i < length made → IsKept owner fragments i
      → KeptObject heap words owner (object_head made fragments) i (id_at made i) (node_at g made i) (fragments i) (spines i)
  pub named : (i j : ℕ) → i < length made → IsKept owner fragments i → (cell : Cell) → slice_get (cells_at g made i) j ≡ Some cell
      → NamesKept made owner fragments cell.value × (cell.stamp < 2 ^ 32)
  pub back : (f i k : ℕ) → owner f ≡ Kept i k → (i < length made) × IsKept owner fragments i × (k < length (fragments i)) × (f ≡ fragment_at (fragments i) k)
  pub board : fragment_at (fragments 0) 0 ≡ 0
