-- A search through the graph: the marks, and those marked objects whose cells wait to be looked at.
use Rattle.std.specs.Prelude.{◌≡◌, ◌≢◌, ℕ, ◌+◌, ◌≤◌, ◌↔◌, ◌⊎◌, List, length, All, AllPairs, Contains}
use Rattle.std.specs.Option.{IfSome}
use Rattle.heap_model.specs.declared.id.Id.{Id}
use Rattle.heap_model.specs.graph.Objects.{node}
use Rattle.heap_model.specs.graph.Graph.{Node, GraphSeat, Graph}
use Rattle.heap_model.specs.graph.Reach.{Reaches}
use Rattle.heap_model.specs.graph.Marking.{Marking, HasMark, unmarked, all_marks, mark_counts, HasMarks, IsFound}

-- the marks, and the marked ids that wait
pub record Search : Type 0 where
  pub marks : Marking
  pub waiting : List Id

-- the list has exactly the marked ids, each once
pub record AreMarked (m : Marking) (ids : List Id) : Type 0 where
  pub once : AllPairs (λ id later. id ≢ later) ids
  pub marked : (id : Id) → Contains ids id ↔ HasMark m id

-- there are positions for all objects: so many are taken by those that were found, and one is left for each that isn't marked
pub record HasPositions (m : Marking) (found positions capacity : ℕ) : Type 0 where
  pub counted : all_marks m ≤ positions
  pub room : positions ≤ capacity
  pub left : unmarked m + found ≤ positions

-- the ids that were found are the marked ones, as many as `position` were looked at, and there is a position for each to come
pub record HasFound (m : Marking) (ids : List Id) (position count positions capacity : ℕ) : Type 0 where
  pub found : AreMarked m ids
  pub next : position ≤ length ids
  pub room : HasPositions m count positions capacity

-- the search went on by marking some more objects, of which `P` holds, and which wait now
pub record GoesOn (P : Id → Type 0) (old new : Search) : Type 0 where
  pub marked_stay : (id : Id) → HasMark old.marks id → HasMark new.marks id
  pub marks_stay : mark_counts new.marks ≡ mark_counts old.marks
  pub waiting_stay : (id : Id) → Contains old.waiting id → Contains new.waiting id
  pub marked_more : (id : Id) → HasMark new.marks id → HasMark old.marks id ⊎ (Contains new.waiting id × P id)
  pub waiting_more : (id : Id) → Contains new.waiting id → Contains old.waiting id ⊎ HasMark new.marks id
  pub work_stays : unmarked new.marks + length new.waiting ≡ unmarked old.marks + length old.waiting

-- all that a register of the seat refers to is marked
abbrev pub FoundFromSeat : Marking → GraphSeat → Type 0
FoundFromSeat m seat = All (λ register. IsFound m register.value) seat.registers

-- all that a cell of the object refers to is marked
abbrev pub FoundFromObject : Marking → Node → Type 0
FoundFromObject m object = All (λ cell. IsFound m cell.value) object.cells

-- only reached objects are marked, among them what registers refer to, and what a marked object refers to unless that one waits
pub record IsSearch (g : Graph) (walk : Search) : Type 0 where
  pub objects : HasMarks g walk.marks
  pub reached : (id : Id) → HasMark walk.marks id → Reaches g id
  pub waiting : (id : Id) → Contains walk.waiting id → HasMark walk.marks id
  pub from_seats : All (FoundFromSeat walk.marks) g.seats
  pub from_objects : (id : Id) → HasMark walk.marks id → Contains walk.waiting id ⊎ IfSome (node g id) (FoundFromObject walk.marks)
