-- How a graph changes: another register or cell, one more object or set, a seat that leaves.
use Rattle.std.specs.Prelude.{ℕ, ◌+◌, ◌-◌, ◌*◌, ◌/◌, ◌%◌, true, false, [], ◌∷◌, ◌++◌, length, replicate, slice_index_or, slice_set}
use Rattle.heap_model.specs.Limits.{register_count, stamp_limit}
use Rattle.heap_model.specs.declared.id.Id.TheVariants.{Board, Made}
use Rattle.heap_model.specs.declared.id.Value.{Value}
use Rattle.heap_model.specs.declared.id.Value.TheVariants.{Nil, Number, Object}
use Rattle.heap_model.specs.declared.graph.cell.Cell.{Cell}
use Rattle.heap_model.specs.graph.Objects.{graph_seat, register_value}
use Rattle.heap_model.specs.graph.Graph.{Node, GraphSeat, Graph, fresh, unseen, unset}

-- the graph with another seat at this number
abbrev pub with_graph_seat : Graph → ℕ → GraphSeat → Graph
with_graph_seat g number p = record g { seats = slice_set g.seats number p }

-- the graph in which register d of the seat holds this value, seen under this stamp
abbrev pub with_register : Graph → ℕ → ℕ → Cell → Graph
with_register g number d cell = with_graph_seat g number (record (graph_seat g number) { registers = slice_set (graph_seat g number).registers d cell })

-- the graph with one more object of the seat, which its register d holds
abbrev pub add : Graph → ℕ → ℕ → Node → Graph
add g number d object =
    let made = graph_seat g number in
    with_graph_seat g number (record made { registers = slice_set made.registers d (unseen (Object (Made number (length made.objects)))); objects = made.objects ++ object ∷ [] })

-- the object with another cell i
abbrev pub with_cell : Node → ℕ → Cell → Node
with_cell object i cell = record object { cells = slice_set object.cells i cell }

-- the seat's objects with another cell i of one of them
abbrev pub with_object_cell : GraphSeat → ℕ → ℕ → Cell → GraphSeat
with_object_cell p count i cell =
    record p { objects = slice_set p.objects count (with_cell (slice_index_or p.objects count (fresh false 0)) i cell) }

-- the graph with another cell i of what the value refers to
abbrev pub write : Graph → Value → ℕ → Cell → Graph
write g Nil i cell = g
write g (Number n) i cell = g
write g (Object Board) i cell = record g { board = with_cell g.board i cell }
write g (Object (Made other count)) i cell = with_graph_seat g other (with_object_cell (graph_seat g other) count i cell)

-- the stamp of the n-th set of a seat, its cas that swapped counted too: whose it is, and which but for a multiple of 2^26
abbrev pub set_stamp : ℕ → ℕ → ℕ
set_stamp number n = (number + 1) * stamp_limit + n % stamp_limit

-- the seat that set a cell with this stamp
abbrev pub stamp_seat : ℕ → ℕ
stamp_seat stamp = stamp / stamp_limit - 1

-- and which of its sets that was, but for a multiple of 2^26
abbrev pub stamp_count : ℕ → ℕ
stamp_count stamp = stamp % stamp_limit

-- the graph in which the seat did one more set, or one more cas that swapped
abbrev pub count_set : Graph → ℕ → Graph
count_set g number = with_graph_seat g number (record (graph_seat g number) { sets = (graph_seat g number).sets + 1 })

-- the graph after one more set of the seat, or a cas that swapped: cell i of what its register r refers to holds the value of its register v
abbrev pub set_cell : Graph → ℕ → ℕ → ℕ → ℕ → Graph
set_cell g number r i v =
    write (count_set g number) (register_value g number r) i (record { value = register_value g number v; stamp = set_stamp number ((graph_seat g number).sets + 1) })

-- the graph in which the seat's registers are empty, and it has left
abbrev pub leave : Graph → ℕ → Graph
leave g number = with_graph_seat g number (record (graph_seat g number) { registers = replicate register_count unset; left = true })
