-- Register 0 of a seat that hasn't left is the board.
use Rattle.std.proofs.Common.{◌≡◌, ℕ, false, List, [], ◌∷◌, get_or, set, length, replicate, refl, sym, ap, ◌∙◌, subst, inl, inr, arith, length-set}
use Rattle.std.specs.List.{All}
use Rattle.std.proofs.lemmas.Bool.{cases_eq, cases_lt}
use Rattle.std.proofs.lemmas.List.{get_or-set_same, get_or-set_other, get_or_past, get_or-replicate, length-replicate}
use Rattle.std.proofs.lemmas.List.Elements.{All-head, All-tail, All-nil, All-cons, All-weaker}
use Rattle.heap_model.specs.declared.id.Id.TheVariants.{Board, Made}
use Rattle.heap_model.specs.declared.id.Value.{Value}
use Rattle.heap_model.specs.declared.id.Value.TheVariants.{Nil, Number, Object}
use Rattle.heap_model.specs.declared.graph.cell.Cell.{Cell}
use Rattle.heap_model.specs.declared.command.Command.{Command}
use Rattle.heap_model.specs.declared.command.Command.TheVariants as commands
use Rattle.heap_model.specs.declared.reply.Reply.{Reply}
use Rattle.heap_model.specs.declared.reply.Reply.TheVariants as replies
use Rattle.heap_model.specs.declared.entry.Entry.{Entry}
use Rattle.heap_model.specs.declared.entry.Entry.TheVariants.{Said}
use Rattle.heap_model.specs.declared.heap.Heap.{Heap}
use Rattle.heap_model.specs.Command.{IsCommand, IsTarget}
use Rattle.heap_model.specs.account.Cycles.{graph_of}
use Rattle.heap_model.specs.graph.Legal.{Accepts, AcceptsAll, IsObjectLegal}
use Rattle.heap_model.specs.graph.Objects.{graph_seat, register_value, absent_graph_seat}
use Rattle.heap_model.specs.graph.Graph.{Graph, GraphSeat, opening, opening_graph_seat, unset}
use Rattle.heap_model.specs.graph.Changes.{with_graph_seat, write, count_set, with_object_cell}
use Rattle.heap_model.specs.graph.Growth.{after_entry, after_reply, graph_after}
use Rattle.heap_model.specs.calls.SeatLaws.{IsOwn, BoardStays}

-- where the seat hasn't left, its register 0 is the board
abbrev HasBoard : GraphSeat → Type 0
HasBoard seat = seat.left ≡ false → (get_or seat.registers 0 unset).value ≡ Object Board

-- whichever seat changes: one that isn't there has left
board_with : (g : Graph) (number q : ℕ) (p : GraphSeat) → HasBoard (graph_seat g number) → (HasBoard (graph_seat g q) → HasBoard p) → HasBoard (graph_seat (with_graph_seat g q p) number)
board_with g number q p has new = elim (cases_eq number q) [
  | inl same ↦ subst (λ n. HasBoard (get_or (set g.seats q p) n absent_graph_seat)) (sym same) (elim (cases_lt q (length g.seats)) [
    | inl there ↦ subst HasBoard (sym (get_or-set_same g.seats q p absent_graph_seat there)) (new (subst (λ n. HasBoard (graph_seat g n)) same has))
    | inr past ↦ subst HasBoard (sym (get_or_past (set g.seats q p) q absent_graph_seat (omega (arith, past, length-set g.seats q p)))) (λ left. cc)
  ])
  | inr other ↦ subst HasBoard (sym (get_or-set_other g.seats q number p absent_graph_seat other)) has
]

-- a register that a command may write is another one
board_put : (seat : GraphSeat) (d : ℕ) (cell : Cell) → IsTarget d → HasBoard seat → seat.left ≡ false → (get_or (set seat.registers d cell) 0 unset).value ≡ Object Board
board_put seat d cell target has left = ap (λ (register : Cell). register.value) (get_or-set_other seat.registers d 0 cell unset (λ e. omega (arith, e, target.0))) ∙ has left

board_write : (g : Graph) (number : ℕ) (value : Value) (i : ℕ) (cell : Cell) → HasBoard (graph_seat g number) → HasBoard (graph_seat (write g value i cell) number)
board_write g number Nil i cell has = has
board_write g number (Number n) i cell has = has
board_write g number (Object Board) i cell has = has
board_write g number (Object (Made other count)) i cell has = board_with g number other (with_object_cell (graph_seat g other) count i cell) has (λ its. its)

board_said : (g : Graph) (number other : ℕ) (command : Command) (reply : Reply) → IsCommand command → HasBoard (graph_seat g number) → HasBoard (graph_seat (after_reply g other command reply) number)
board_said g number other (commands.New d fields) (replies.Made id) in_range has = board_with g number other _ has (board_put (graph_seat g other) d _ in_range.0)
board_said g number other (commands.Array d cells) (replies.Made id) in_range has = board_with g number other _ has (board_put (graph_seat g other) d _ in_range.0)
board_said g number other (commands.Get d r i) (replies.Got value stamp) in_range has = board_with g number other _ has (board_put (graph_seat g other) d _ in_range.0)
board_said g number other (commands.Set r i v) (replies.Was stamp) in_range has = board_write (count_set g other) number (register_value g other r) i _ (board_with g number other _ has (λ its. its))
board_said g number other (commands.Cas r i a v) (replies.Was stamp) in_range has = board_write (count_set g other) number (register_value g other r) i _ (board_with g number other _ has (λ its. its))
board_said g number other (commands.Num d n) reply in_range has = board_with g number other _ has (board_put (graph_seat g other) d _ in_range.0)
board_said g number other (commands.Nil d) reply in_range has = board_with g number other _ has (board_put (graph_seat g other) d _ in_range)
board_said g number other (commands.Copy d r) reply in_range has = board_with g number other _ has (board_put (graph_seat g other) d _ in_range.0)
board_said g number other commands.Leave reply in_range has = board_with g number other _ has (λ its left. cc)
board_said g number other command reply in_range has = has

-- the numbers of the entry's command are in their ranges
abbrev IsInRange : Entry → Type 0
IsInRange (Said other command reply) = IsCommand command
IsInRange _ = Unit {0}

board_after : (g : Graph) (number : ℕ) (entry : Entry) → IsInRange entry → HasBoard (graph_seat g number) → HasBoard (graph_seat (after_entry g entry) number)
board_after g number (Said other command reply) in_range has = board_said g number other command reply in_range has
board_after g number entry in_range has = has

board_after_all : (g : Graph) (number : ℕ) (history : List Entry) → All IsInRange history → HasBoard (graph_seat g number) → HasBoard (graph_seat (graph_after g history) number)
board_after_all g number [] in_range has = has
board_after_all g number (entry ∷ history) in_range has =
    board_after_all (after_entry g entry) number history (All-tail IsInRange entry history in_range) (board_after g number entry (All-head IsInRange entry history in_range) has)

-- it is so at the opening
board_opens : (heap : Heap) (number : ℕ) → HasBoard (graph_seat (opening heap) number)
board_opens heap number = elim (cases_lt number heap.seats) [
  | inl there ↦ subst HasBoard (sym (get_or-replicate heap.seats number opening_graph_seat absent_graph_seat there)) (λ left. refl)
  | inr past ↦ subst HasBoard (sym (get_or_past (replicate heap.seats opening_graph_seat) number absent_graph_seat (omega (arith, past, length-replicate heap.seats opening_graph_seat)))) (λ left. cc)
]

-- so it is after the seat's own entries
own_in_range : (number : ℕ) (entry : Entry) → IsOwn number entry → IsInRange entry
own_in_range number (Said other command reply) own = own.1
own_in_range number entry own = tt

pub board_stays : BoardStays
board_stays seat is left =
    board_after_all (opening seat.heap) seat.number seat.mine (All-weaker (IsOwn seat.number) IsInRange (own_in_range seat.number) seat.mine is.own) (board_opens seat.heap seat.number) left

-- and after every legal history
accepted_in_range : (g : Graph) (entry : Entry) → Accepts g entry → IsInRange entry
accepted_in_range g (Said other command reply) accepts = accepts.1
accepted_in_range g entry accepts = tt

all_in_range : (g : Graph) (history : List Entry) → AcceptsAll g history → All IsInRange history
all_in_range g [] accepts = All-nil IsInRange
all_in_range g (entry ∷ history) accepts = All-cons IsInRange entry history (accepted_in_range g entry accepts.0) (all_in_range (after_entry g entry) history accepts.1)

pub first_register_holds_board : (heap : Heap) (history : List Entry) (number : ℕ) → IsObjectLegal heap history → (graph_seat (graph_of heap history) number).left ≡ false → register_value (graph_of heap history) number 0 ≡ Object Board
first_register_holds_board heap history number legal left = board_after_all (opening heap) number history (all_in_range (opening heap) history legal) (board_opens heap number) left
