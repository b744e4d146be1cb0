-- What the graph of a seat's own entries has of the graph of all entries.
use Rattle.std.specs.Prelude.{◌≡◌, ◌≢◌, ℕ, Bool, List, [], length, map}
use Rattle.heap_model.specs.account.Cycles.{graph_of}
use Rattle.heap_model.specs.declared.entry.Entry.{Entry}
use Rattle.heap_model.specs.declared.heap.Heap.{Heap}
use Rattle.heap_model.specs.graph.Graph.{Graph, GraphSeat, Node}
use Rattle.heap_model.specs.graph.Objects.{graph_seat}
use Rattle.heap_model.specs.Logs.{log_of}

-- what stays of an object for ever: whether it is an array, and how many cells it has
pub record Shape : Type 0 where
  pub array : Bool
  pub cells : ℕ

-- the shape of an object
abbrev pub shape_of : Node → Shape
shape_of object = record { array = object.array; cells = length object.cells }

-- the seats have the same registers, objects of the same shapes, and as many sets, and both have left or neither
pub record AreAlike (one other : GraphSeat) : Type 0 where
  pub registers : one.registers ≡ other.registers
  pub objects : map shape_of one.objects ≡ map shape_of other.objects
  pub sets : one.sets ≡ other.sets
  pub left : one.left ≡ other.left

-- the graphs have as many seats, boards of the same shape, and the same of this seat
pub record AgreeOn (number : ℕ) (one other : Graph) : Type 0 where
  pub positions : length one.seats ≡ length other.seats
  pub board : shape_of one.board ≡ shape_of other.board
  pub seat : AreAlike (graph_seat one number) (graph_seat other number)

-- the one graph has of the seat what the other has, and no object that another seat made
pub record IsSeatsSubgraph (number : ℕ) (own whole : Graph) : Type 0 where
  pub agrees : AgreeOn number own whole
  pub others : (other : ℕ) → other ≢ number → (graph_seat own other).objects ≡ []

-- after every history the graph of a seat's own entries has of the seat what the graph of all entries has
unfoldable pub EachOwnGraphIsWithin : Type 0
EachOwnGraphIsWithin = (heap : Heap) (history : List Entry) (number : ℕ) → IsSeatsSubgraph number (graph_of heap (log_of number history)) (graph_of heap history)
