-- What contracts see of a seat, and what the seat's own entries tell.
use Rattle.std.specs.Prelude.{ℕ, List, Option}
use Rattle.heap_model.specs.declared.heap.Heap.{Heap}
use Rattle.heap_model.specs.declared.id.Value.{Value}
use Rattle.heap_model.specs.declared.id.Value.TheVariants.{Nil, Number, Object}
use Rattle.heap_model.specs.declared.entry.Entry.{Entry}
use Rattle.heap_model.specs.graph.Objects.{graph_seat, register_value, target_node}
use Rattle.heap_model.specs.graph.Graph.{Node, GraphSeat, Graph, opening}
use Rattle.heap_model.specs.graph.Growth.{graph_after}

-- the heap, the seat's number, its entries in their order, and for how many more there is room
pub record SeatState : Type 0 where
  pub heap : Heap
  pub number : ℕ
  pub mine : List Entry
  pub spare : ℕ

-- the graph that the seat's own entries make: its registers, the board and its objects, without what others set
abbrev pub own_graph : SeatState → Graph
own_graph seat = graph_after (opening seat.heap) seat.mine

-- the seat in that graph
abbrev pub own_graph_seat : SeatState → GraphSeat
own_graph_seat seat = graph_seat (own_graph seat) seat.number

-- the value of the seat's register
abbrev pub held_value : SeatState → ℕ → Value
held_value seat r = register_value (own_graph seat) seat.number r

-- the value is no object
abbrev pub IsNoObject : Value → Type 0
IsNoObject Nil = Unit {0}
IsNoObject (Number n) = Unit {0}
IsNoObject (Object id) = ⊥

-- the register holds no object
abbrev pub HoldsNoObject : SeatState → ℕ → Type 0
HoldsNoObject seat r = IsNoObject (held_value seat r)

-- the object that the register holds, where it is the board or the seat made it
abbrev pub own_object : SeatState → ℕ → Option Node
own_object seat r = target_node (own_graph seat) (held_value seat r)
