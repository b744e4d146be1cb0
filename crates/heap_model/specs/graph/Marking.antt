-- The marks of a search through the graph.
use Rattle.std.specs.Prelude.{◌≡◌, ℕ, ◌+◌, Bool, true, false, not, if◌then◌else◌, List, [], length, map, replicate, slice_get, slice_index_or, slice_set, count_by, sum_by, AllPairs, Contains, Option, Some, unwrap_or, IsSome}
use Rattle.heap_model.specs.declared.id.Id.{Id}
use Rattle.heap_model.specs.declared.id.Id.TheVariants.{Board, Made}
use Rattle.heap_model.specs.declared.id.Value.{Value}
use Rattle.heap_model.specs.declared.id.Value.TheVariants.{Nil, Number, Object}
use Rattle.heap_model.specs.graph.Objects.{made_counts}
use Rattle.heap_model.specs.graph.Graph.{Graph}
use Rattle.heap_model.specs.graph.Reach.{IsBefore}

-- the board's mark, and each seat's marks in the order of its objects
pub record Marking : Type 0 where
  pub board : Bool
  pub seats : List (List Bool)

-- the marks of this seat
abbrev pub marks_of : Marking → ℕ → List Bool
marks_of m number = slice_index_or m.seats number []

-- the mark of this id, where there is such an object
abbrev pub mark_of : Marking → Id → Option Bool
mark_of m Board = Some m.board
mark_of m (Made number count) = slice_get (marks_of m number) count

-- there is an object of this id, and it is marked
abbrev pub HasMark : Marking → Id → Type 0
HasMark m id = mark_of m id ≡ Some true

-- whether there is an object of this id, and it is marked
abbrev pub is_marked : Marking → Id → Bool
is_marked m id = unwrap_or (mark_of m id) false

-- the marks with that of this id set
abbrev pub with_mark : Marking → Id → Marking
with_mark m Board = record m { board = true }
with_mark m (Made number count) = record m { seats = slice_set m.seats number (slice_set (marks_of m number) count true) }

-- how many objects are not marked
abbrev pub unmarked : Marking → ℕ
unmarked m = (if m.board then 0 else 1) + sum_by (λ marks. count_by not marks) m.seats

-- how many marks there are, the board's among them
abbrev pub all_marks : Marking → ℕ
all_marks m = 1 + sum_by length m.seats

-- how many marks there are of each seat, in the order of the seats
abbrev pub mark_counts : Marking → List ℕ
mark_counts m = map length m.seats

-- marks of which none is set: the board's, and so many of each seat
abbrev pub no_marks : List ℕ → Marking
no_marks counts = record { board = false; seats = map (λ n. replicate n false) counts }

-- there is a mark for each object of the graph, and no more
abbrev pub HasMarks : Graph → Marking → Type 0
HasMarks g m = mark_counts m ≡ made_counts g

-- where the value refers to an object that has a mark, this is set
abbrev pub IsFound : Marking → Value → Type 0
IsFound m Nil = Unit {0}
IsFound m (Number n) = Unit {0}
IsFound m (Object id) = IsSome (mark_of m id) → HasMark m id

-- the list has exactly the marked ids before this one, in their order
pub record IsListed (m : Marking) (bound : Id) (ids : List Id) : Type 0 where
  pub ordered : AllPairs IsBefore ids
  pub marked : (id : Id) → Contains ids id → HasMark m id × IsBefore id bound
  pub whole : (id : Id) → HasMark m id → IsBefore id bound → Contains ids id
