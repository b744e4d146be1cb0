-- An entry changes what its seat alone decides, and at most one cell.
use Rattle.std.proofs.Common.{◌≡◌, ℕ, ◌+◌, ◌<◌, Bool, true, false, List, [], ◌∷◌, ◌++◌, length, map, get_or, set, replicate, refl, sym, ap, ◌∙◌, length-append, length-set}
use Rattle.std.proofs.Math.ListN.{get_or-map}
use Rattle.std.proofs.Math.Seq.{map-set_same}
use Rattle.std.proofs.lemmas.List.{append-nil, get_or-set_same, get_or-set_other, set-get_or}
use Rattle.heap_model.specs.Limits.{register_count}
use Rattle.heap_model.specs.declared.id.Id.TheVariants.{Board, Made}
use Rattle.heap_model.specs.declared.id.Value.{Value}
use Rattle.heap_model.specs.declared.id.Value.TheVariants.{Nil, Number, Object}
use Rattle.heap_model.specs.declared.graph.cell.Cell.{Cell}
use Rattle.heap_model.specs.declared.command.Command.{Command}
use Rattle.heap_model.specs.declared.command.Command.TheVariants as commands
use Rattle.heap_model.specs.declared.reply.Reply.{Reply}
use Rattle.heap_model.specs.declared.reply.Reply.TheVariants as replies
use Rattle.heap_model.specs.declared.entry.Entry.{Entry}
use Rattle.heap_model.specs.declared.entry.Entry.TheVariants as entries
use Rattle.heap_model.specs.graph.Objects.{graph_seat, register_value, absent_graph_seat}
use Rattle.heap_model.specs.graph.Graph.{Node, GraphSeat, Graph, fresh, unseen, unset}
use Rattle.heap_model.specs.graph.Changes.{with_graph_seat, with_object_cell, write, set_cell, set_stamp}
use Rattle.heap_model.specs.graph.Growth.{after_entry, after_reply}

-- what a seat's own entries alone decide
pub record Own : Type 0 where
  pub registers : List Cell
  pub made : ℕ
  pub sets : ℕ
  pub left : Bool

abbrev pub own_of : GraphSeat → Own
own_of seat = record { registers = seat.registers; made = length seat.objects; sets = seat.sets; left = seat.left }

abbrev pub own : Graph → ℕ → Own
own g number = own_of (graph_seat g number)

-- what registers hold
abbrev pub values_in : List Cell → List Value
values_in registers = map (λ (register : Cell). register.value) registers

abbrev pub values_of : Own → List Value
values_of o = values_in o.registers

pub value_of_register : (o : Own) (r : ℕ) → get_or (values_of o) r Nil ≡ (get_or o.registers r unset).value
value_of_register o r = get_or-map (λ (register : Cell). register.value) o.registers r unset

-- what an entry changes: what its seat alone decides, and the cell of a place
pub record Change : Type 0 where
  pub registers : List Cell
  pub more : List Node
  pub sets : ℕ
  pub left : Bool
  pub place : Value
  pub index : ℕ
  pub cell : Cell

-- nothing changes
abbrev pub still : Own → Change
still o = record { registers = o.registers; more = []; sets = o.sets; left = o.left; place = Nil; index = 0; cell = unset }

-- only the registers change
abbrev pub with_registers : Own → List Cell → Change
with_registers o registers = record { registers = registers; more = []; sets = o.sets; left = o.left; place = Nil; index = 0; cell = unset }

abbrev pub with_object : Own → ℕ → ℕ → Node → Change
with_object o number d object = record { registers = set o.registers d (unseen (Object (Made number o.made))); more = object ∷ []; sets = o.sets; left = o.left; place = Nil; index = 0; cell = unset }

abbrev pub with_set : Own → ℕ → ℕ → ℕ → ℕ → Change
with_set o number r i v = record {
  registers = o.registers;
  more = [];
  sets = o.sets + 1;
  left = o.left;
  place = (get_or o.registers r unset).value;
  index = i;
  cell = record { value = (get_or o.registers v unset).value; stamp = set_stamp number (o.sets + 1) };
}

-- what a seat's command and its reply change
abbrev pub change_of : Own → ℕ → Command → Reply → Change
change_of o number (commands.New d fields) (replies.Made id) = with_object o number d (fresh false fields)
change_of o number (commands.Array d cells) (replies.Made id) = with_object o number d (fresh true cells)
change_of o number (commands.Get d r i) (replies.Got value stamp) = with_registers o (set o.registers d (record { value = value; stamp = stamp }))
change_of o number (commands.Set r i v) (replies.Was stamp) = with_set o number r i v
change_of o number (commands.Cas r i a v) (replies.Was stamp) = with_set o number r i v
change_of o number (commands.Num d n) reply = with_registers o (set o.registers d (unseen (Number n)))
change_of o number (commands.Nil d) reply = with_registers o (set o.registers d unset)
change_of o number (commands.Copy d r) reply = with_registers o (set o.registers d (get_or o.registers r unset))
change_of o number commands.Leave reply = record { registers = replicate register_count unset; more = []; sets = o.sets; left = true; place = Nil; index = 0; cell = unset }
change_of o number _ reply = still o

abbrev pub grown : GraphSeat → Change → GraphSeat
grown seat c = record { registers = c.registers; objects = seat.objects ++ c.more; sets = c.sets; left = c.left }

-- the graph in which the seat has grown by the change
abbrev pub seat_changed : Graph → ℕ → Change → Graph
seat_changed g number c = with_graph_seat g number (grown (graph_seat g number) c)

-- and in which the cell is written
abbrev pub changed : Graph → ℕ → Change → Graph
changed g number c = write (seat_changed g number c) c.place c.index c.cell

-- a seat that grows by no object
more_none : (g : Graph) (number : ℕ) (registers : List Cell) (sets : ℕ) (left : Bool)
    → with_graph_seat g number (record { registers = registers; objects = (graph_seat g number).objects ++ []; sets = sets; left = left })
    ≡ with_graph_seat g number (record { registers = registers; objects = (graph_seat g number).objects; sets = sets; left = left })
more_none g number registers sets left =
    ap (λ (objects : List Node). with_graph_seat g number (record { registers = registers; objects = objects; sets = sets; left = left })) (append-nil (graph_seat g number).objects)

stays : (g : Graph) (number : ℕ) → g ≡ changed g number (still (own g number))
stays g number =
    let s = graph_seat g number in
    sym (more_none g number s.registers s.sets s.left ∙ ap (λ (seats : List GraphSeat). record g { seats = seats }) (set-get_or g.seats number absent_graph_seat))

set_cell-changed : (g : Graph) (number r i v : ℕ) → set_cell g number r i v ≡ changed g number (with_set (own g number) number r i v)
set_cell-changed g number r i v =
    ap (λ (h : Graph). write h (register_value g number r) i (record { value = register_value g number v; stamp = set_stamp number ((graph_seat g number).sets + 1) })) (sym (more_none g number (graph_seat g number).registers ((graph_seat g number).sets + 1) (graph_seat g number).left))

-- an entry makes this change
pub after_reply-changed : (g : Graph) (number : ℕ) (command : Command) (reply : Reply) → after_reply g number command reply ≡ changed g number (change_of (own g number) number command reply)
after_reply-changed g number (commands.New d fields) (replies.Made id) = refl
after_reply-changed g number (commands.Array d cells) (replies.Made id) = refl
after_reply-changed g number (commands.Get d r i) (replies.Got value stamp) = sym (more_none g number _ _ _)
after_reply-changed g number (commands.Set r i v) (replies.Was stamp) = set_cell-changed g number r i v
after_reply-changed g number (commands.Cas r i a v) (replies.Was stamp) = set_cell-changed g number r i v
after_reply-changed g number (commands.Num d n) reply = sym (more_none g number _ _ _)
after_reply-changed g number (commands.Nil d) reply = sym (more_none g number _ _ _)
after_reply-changed g number (commands.Copy d r) reply = sym (more_none g number _ _ _)
after_reply-changed g number commands.Leave reply = sym (more_none g number _ _ _)
after_reply-changed g number _ reply = stays g number

-- what a seat alone decides stays where a seat is put in that has the same
own-with_seat : (g : Graph) (number other : ℕ) (seat : GraphSeat) → own_of seat ≡ own g number → own (with_graph_seat g number seat) other ≡ own g other
own-with_seat g number other seat same =
    let owns = map-set_same own_of g.seats number seat absent_graph_seat same in
    sym (get_or-map own_of (set g.seats number seat) other absent_graph_seat) ∙ ap (λ (os : List Own). get_or os other (own_of absent_graph_seat)) owns ∙ get_or-map own_of g.seats other absent_graph_seat

-- a cell that is written leaves it
pub own-write : (g : Graph) (value : Value) (i : ℕ) (cell : Cell) (number : ℕ) → own (write g value i cell) number ≡ own g number
own-write g Nil i cell number = refl
own-write g (Number n) i cell number = refl
own-write g (Object Board) i cell number = refl
own-write g (Object (Made other count)) i cell number =
    let s = graph_seat g other in
    own-with_seat g other number (with_object_cell s count i cell) (ap (λ (n : ℕ). let o : Own = record { registers = s.registers; made = n; sets = s.sets; left = s.left } in o) (length-set s.objects count _))

-- another seat's change leaves it
pub own-changed_other : (g : Graph) (number other : ℕ) (c : Change) → (other ≡ number → ⊥) → own (changed g number c) other ≡ own g other
own-changed_other g number other c apart =
    own-write (seat_changed g number c) c.place c.index c.cell other ∙ ap own_of (get_or-set_other g.seats number other (grown (graph_seat g number) c) absent_graph_seat apart)

-- what it is after the seat's own change
abbrev pub own_after : Own → Change → Own
own_after o c = record { registers = c.registers; made = o.made + length c.more; sets = c.sets; left = c.left }

pub own-changed : (g : Graph) (number : ℕ) (c : Change) → number < length g.seats → own (changed g number c) number ≡ own_after (own g number) c
own-changed g number c within =
    own-write (seat_changed g number c) c.place c.index c.cell number
    ∙ ap own_of (get_or-set_same g.seats number (grown (graph_seat g number) c) absent_graph_seat within)
    ∙ ap (λ (n : ℕ). let o : Own = record { registers = c.registers; made = n; sets = c.sets; left = c.left } in o) (length-append (graph_seat g number).objects c.more)

-- the seats stay the same number
seats-write : (g : Graph) (value : Value) (i : ℕ) (cell : Cell) → length (write g value i cell).seats ≡ length g.seats
seats-write g Nil i cell = refl
seats-write g (Number n) i cell = refl
seats-write g (Object Board) i cell = refl
seats-write g (Object (Made number count)) i cell = length-set g.seats number _

pub seat_count_after_entry : (g : Graph) (e : Entry) → length (after_entry g e).seats ≡ length g.seats
seat_count_after_entry g (entries.Said number command reply) =
    let c = change_of (own g number) number command reply in
    ap (λ (h : Graph). length h.seats) (after_reply-changed g number command reply) ∙ seats-write (seat_changed g number c) c.place c.index c.cell ∙ length-set g.seats number _
seat_count_after_entry g _ = refl
