-- The graph as contracts see it, with its objects and seats, and how these are at the opening.
use Rattle.std.specs.Prelude.{ℕ, Bool, false, List, [], ◌∷◌, replicate}
use Rattle.heap_model.specs.Board.{board_fields}
use Rattle.heap_model.specs.Limits.{last_register}
use Rattle.heap_model.specs.declared.heap.Heap.{Heap}
use Rattle.heap_model.specs.declared.id.Id.TheVariants.{Board}
use Rattle.heap_model.specs.declared.id.Value.{Value}
use Rattle.heap_model.specs.declared.id.Value.TheVariants.{Nil, Object}
use Rattle.heap_model.specs.declared.graph.cell.Cell.{Cell}

-- an object: a record or an array of cells
pub record Node : Type 0 where
  pub array : Bool
  pub cells : List Cell

-- a seat: its registers, each a value with the stamp under which it was seen, the objects that it made in their order, the number of its sets and of its cas that swapped, and whether it left
pub record GraphSeat : Type 0 where
  pub registers : List Cell
  pub objects : List Node
  pub sets : ℕ
  pub left : Bool

-- the board, and the seats in their order
pub record Graph : Type 0 where
  pub board : Node
  pub seats : List GraphSeat

-- a cell that was never set
abbrev pub unset : Cell
unset = record { value = Nil; stamp = 0 }

-- a value that was read from no cell
abbrev pub unseen : Value → Cell
unseen value = record { value = value; stamp = 0 }

-- an object of cells that were never set
abbrev pub fresh : Bool → ℕ → Node
fresh array cells = record { array = array; cells = replicate cells unset }

-- a seat at the opening: register 0 is the board, and the others are nil
abbrev pub opening_graph_seat : GraphSeat
opening_graph_seat = record { registers = unseen (Object Board) ∷ replicate last_register unset; objects = []; sets = 0; left = false }

-- the graph at the opening
abbrev pub opening : Heap → Graph
opening heap = record { board = fresh false (board_fields heap); seats = replicate heap.seats opening_graph_seat }
