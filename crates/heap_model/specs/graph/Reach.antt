-- Which objects can be reached from the registers of the seats.
use Rattle.std.specs.Prelude.{◌≡◌, ◌≢◌, ◌<◌, ◌↔◌, ◌⊎◌, List, IsSome, IsSomeAnd, Any, AllPairs, Contains}
use Rattle.heap_model.specs.declared.id.Id.{Id}
use Rattle.heap_model.specs.declared.id.Id.TheVariants.{Board, Made}
use Rattle.heap_model.specs.declared.id.Value.TheVariants.{Object}
use Rattle.heap_model.specs.graph.Objects.{node}
use Rattle.heap_model.specs.graph.Graph.{Node, GraphSeat, Graph}

-- the object was made
abbrev pub IsMade : Graph → Id → Type 0
IsMade g id = IsSome (node g id)

-- a register of the seat holds the id
abbrev pub IsRegistered : GraphSeat → Id → Type 0
IsRegistered seat id = Any (λ register. register.value ≡ Object id) seat.registers

-- a cell of the object holds the id
abbrev pub PointsTo : Node → Id → Type 0
PointsTo object id = Any (λ cell. cell.value ≡ Object id) object.cells

-- there is an object of the first id, and a cell of it holds the second
abbrev pub Points : Graph → Id → Id → Type 0
Points g holder id = IsSomeAnd (node g holder) (λ object. PointsTo object id)

-- a register of some seat holds the id
abbrev pub IsRoot : Graph → Id → Type 0
IsRoot g id = Any (λ seat. IsRegistered seat id) g.seats

-- the object was made, and a register of some seat or a cell of a reached object holds its id
pub data Reaches (g : Graph) : Id → Type 0 where
  from_register : (id : Id) → IsMade g id → IsRoot g id → Reaches g id
  from_cell : (id : Id) → IsMade g id → (holder : Id) → Reaches g holder → Points g holder id → Reaches g id

-- the board is before all others; these go by their seats, and those of a seat by their counts
abbrev pub IsBefore : Id → Id → Type 0
IsBefore Board Board = ⊥
IsBefore Board (Made t later) = Unit {0}
IsBefore (Made number count) Board = ⊥
IsBefore (Made number count) (Made t later) = (number < t) ⊎ ((number ≡ t) × (count < later))

-- the list has exactly the reached ids, in their order and so each once
pub record IsReach (g : Graph) (ids : List Id) : Type 0 where
  pub ordered : AllPairs IsBefore ids
  pub reached : (id : Id) → Contains ids id ↔ Reaches g id

-- the list has exactly the reached ids, each once, in whatever order
pub record AreReached (g : Graph) (ids : List Id) : Type 0 where
  pub once : AllPairs (λ id later. id ≢ later) ids
  pub reached : (id : Id) → Contains ids id ↔ Reaches g id

-- the second list has exactly the reached ids of the first, each once where the first has each once
pub record AreReachedAmong (g : Graph) (ids both : List Id) : Type 0 where
  pub once : AllPairs (λ id later. id ≢ later) ids → AllPairs (λ id later. id ≢ later) both
  pub reached : (id : Id) → Contains both id ↔ Contains ids id × Reaches g id
