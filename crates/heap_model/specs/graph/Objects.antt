-- What the seats, registers, ids and values of a graph stand for.
use Rattle.std.specs.Prelude.{ℕ, true, List, [], length, map, slice_get, slice_index_or, Option, Some, None, Result, Ok, Err}
use Rattle.heap_model.specs.declared.id.Id.{Id}
use Rattle.heap_model.specs.declared.id.Id.TheVariants.{Board, Made}
use Rattle.heap_model.specs.declared.id.Value.{Value}
use Rattle.heap_model.specs.declared.id.Value.TheVariants.{Nil, Number, Object}
use Rattle.heap_model.specs.declared.graph.cell.Cell.{Cell}
use Rattle.heap_model.specs.declared.reply.Reply.{Reply}
use Rattle.heap_model.specs.declared.reply.Reply.TheVariants.{NoObject, NoField}
pub use Rattle.heap_model.specs.graph.Graph.{Node, GraphSeat, Graph, unset, fresh, opening_graph_seat, opening}

-- what stands for a seat that isn't there: it has left
abbrev pub absent_graph_seat : GraphSeat
absent_graph_seat = record { registers = []; objects = []; sets = 0; left = true }

-- the seat of this number
abbrev pub graph_seat : Graph → ℕ → GraphSeat
graph_seat g number = slice_index_or g.seats number absent_graph_seat

-- a seat's register: its value, and the stamp under which that was seen
abbrev pub register_cell : Graph → ℕ → ℕ → Cell
register_cell g number r = slice_index_or (graph_seat g number).registers r unset

-- the value of a seat's register
abbrev pub register_value : Graph → ℕ → ℕ → Value
register_value g number r = (register_cell g number r).value

-- the stamp of the cell that the register's value was read from, and 0 where no cell was read
abbrev pub seen_stamp : Graph → ℕ → ℕ → ℕ
seen_stamp g number r = (register_cell g number r).stamp

-- how many objects each seat made, in the order of the seats
abbrev pub made_counts : Graph → List ℕ
made_counts g = map (λ seat. length seat.objects) g.seats

-- the object of this id, where it was made
abbrev pub node : Graph → Id → Option Node
node g Board = Some g.board
node g (Made number count) = slice_get (graph_seat g number).objects count

-- the object that a value refers to
abbrev pub target_node : Graph → Value → Option Node
target_node g Nil = None
target_node g (Number n) = None
target_node g (Object id) = node g id

-- the cell that was found, or the refusal of an index past the end
abbrev pub or_no_field : Option Cell → Result Cell Reply
or_no_field None = Err NoField
or_no_field (Some cell) = Ok cell

-- the cell of an object, or the refusal that tells why there is none
abbrev pub cell_or_refusal : Option Node → ℕ → Result Cell Reply
cell_or_refusal None i = Err NoObject
cell_or_refusal (Some object) i = or_no_field (slice_get object.cells i)

-- the cell i of what a register refers to
abbrev pub cell_at : Graph → ℕ → ℕ → ℕ → Result Cell Reply
cell_at g number r i = cell_or_refusal (target_node g (register_value g number r)) i
