-- In a graph that is sound nothing refers to what was not made yet, and no stamp is that of a set to come.
use Rattle.std.proofs.Common.{◌≡◌, ℕ, ◌<◌, ◌≤◌, inl, inr, false, List, length, get_or, slice_get, Option, Some, None, Result, Ok, Err, refl, sym, ap, subst, arith}
use Rattle.std.specs.List.{All}
use Rattle.std.proofs.lemmas.Bool.{cases_lt, cases_eq}
use Rattle.std.proofs.lemmas.List.{get_or_past}
use Rattle.std.proofs.lemmas.List.Elements.{All-nil, All-get_or, All-append, All-set, All-weaker}
use Rattle.std.proofs.lemmas.Option.{slice_get_within, get_or_from_slice_get}
use Rattle.heap_model.specs.Limits.{stamp_limit}
use Rattle.heap_model.specs.declared.id.Id.TheVariants.{Board, Made}
use Rattle.heap_model.specs.declared.id.Value.{Value}
use Rattle.heap_model.specs.declared.id.Value.TheVariants.{Nil, Number, Object}
use Rattle.heap_model.specs.declared.graph.cell.Cell.{Cell}
use Rattle.heap_model.specs.declared.command.Command.TheVariants as commands
use Rattle.heap_model.specs.declared.reply.Reply.{Reply}
use Rattle.heap_model.specs.declared.reply.Reply.TheVariants as replies
use Rattle.heap_model.specs.graph.Objects.{graph_seat, register_cell, register_value, absent_graph_seat, target_node, cell_or_refusal, or_no_field}
use Rattle.heap_model.specs.graph.Replies.{Says, Sets, Swaps, Gets}
use Rattle.heap_model.specs.graph.Graph.{Node, GraphSeat, Graph, fresh}
use Rattle.heap_model.specs.graph.Changes.{with_cell, with_object_cell, write, set_stamp}
use Rattle.log_merge.proofs.merge_lemmas.Changes.{Own, own, Change, grown, seat_changed, changed, own-changed, own-changed_other}
use Rattle.log_merge.proofs.merge_lemmas.Places.{look, IsKnown}

-- the stamp is none that a set to come will have
abbrev pub IsOld : Graph → ℕ → Type 0
IsOld g stamp = (seat n : ℕ) → (own g seat).sets < n → n < stamp_limit → stamp ≡ set_stamp seat n → ⊥

abbrev pub IsSoundCell : Graph → Cell → Type 0
IsSoundCell g cell = IsKnown g cell.value × IsOld g cell.stamp

-- each cell of the seat's objects
abbrev pub AllOfSeat : (Cell → Type 0) → GraphSeat → Type 0
AllOfSeat P seat = All (λ o. All P o.cells) seat.objects

-- each cell of the graph
pub record AllCells (P : Cell → Type 0) (g : Graph) : Type 0 where
  pub board : All P g.board.cells
  pub seats : All (AllOfSeat P) g.seats

-- each register and each cell is sound
pub record IsSound (g : Graph) : Type 0 where
  pub registers : (seat r : ℕ) → IsKnown g (register_value g seat r)
  pub cells : AllCells (IsSoundCell g) g

-- what holds of each element and of the default
pub all_holds_or_default : {A : Type 0} (P : A → Type 0) (xs : List A) (i : ℕ) (d : A) → All P xs → P d → P (get_or xs i d)
all_holds_or_default P xs i d all other = elim (cases_lt i (length xs)) [
  | inl within ↦ All-get_or P xs i d within all
  | inr past ↦ subst P (sym (get_or_past xs i d past)) other
]

holds_at : {A : Type 0} (P : A → Type 0) (xs : List A) (i : ℕ) (x : A) → All P xs → slice_get xs i ≡ Some x → P x
holds_at P xs i x all here = subst P (get_or_from_slice_get xs i x x here) (All-get_or P xs i x (slice_get_within xs i x here) all)

-- of each cell that is found
cell_holds : (P : Cell → Type 0) (o : Option Node) (i : ℕ) (cell : Cell) → ((n : Node) → o ≡ Some n → All P n.cells) → cell_or_refusal o i ≡ Ok cell → P cell
cell_holds P None i cell all found = absurd cc
cell_holds P (Some n) i cell all found = option (slice_get n.cells i) refl found
  where
    option : (found : Option Cell) → slice_get n.cells i ≡ found → or_no_field found ≡ Ok cell → P cell
    option None here is = absurd cc
    option (Some c) here is = (let same : c ≡ cell = cc in subst P same (holds_at P n.cells i c (all n refl) here))

pub AllCells-look : (P : Cell → Type 0) (g : Graph) (value : Value) (i : ℕ) (cell : Cell) → AllCells P g → look g value i ≡ Ok cell → P cell
AllCells-look P g Nil i cell all found = absurd cc
AllCells-look P g (Number n) i cell all found = absurd cc
AllCells-look P g (Object Board) i cell all found = holds_at_board (slice_get g.board.cells i) refl found
  where
    holds_at_board : (c : Option Cell) → slice_get g.board.cells i ≡ c → or_no_field c ≡ Ok cell → P cell
    holds_at_board None here is = absurd cc
    holds_at_board (Some c) here is = (let same : c ≡ cell = cc in subst P same (holds_at P g.board.cells i c all.board here))
AllCells-look P g (Object (Made number count)) i cell all found =
    let objects : AllOfSeat P (graph_seat g number) = all_holds_or_default (AllOfSeat P) g.seats number absent_graph_seat all.seats (All-nil (λ (o : Node). All P o.cells)) in
    cell_holds P (slice_get (graph_seat g number).objects count) i cell (λ n here. holds_at (λ (o : Node). All P o.cells) (graph_seat g number).objects count n objects here) found

-- a cell is written
pub AllCells-write : (P : Cell → Type 0) (g : Graph) (value : Value) (i : ℕ) (cell : Cell) → AllCells P g → P cell → AllCells P (write g value i cell)
AllCells-write P g Nil i cell all here = all
AllCells-write P g (Number n) i cell all here = all
AllCells-write P g (Object Board) i cell all here = record { board = All-set P g.board.cells i cell here all.board; seats = all.seats }
AllCells-write P g (Object (Made number count)) i cell all here =
    let Q = λ (o : Node). All P o.cells in
    let s = graph_seat g number in
    let objects : AllOfSeat P s = all_holds_or_default (AllOfSeat P) g.seats number absent_graph_seat all.seats (All-nil Q) in
    let o = get_or s.objects count (fresh false 0) in
    let cells : Q o = all_holds_or_default Q s.objects count (fresh false 0) objects (All-nil P) in
    record {
      board = all.board;
      seats = All-set (AllOfSeat P) g.seats number (with_object_cell s count i cell) (All-set Q s.objects count (with_cell o i cell) (All-set P o.cells i cell here cells) objects) all.seats;
    }

-- a seat grows
pub AllCells-seat_changed : (P : Cell → Type 0) (g : Graph) (number : ℕ) (c : Change) → AllCells P g → All (λ (o : Node). All P o.cells) c.more → AllCells P (seat_changed g number c)
AllCells-seat_changed P g number c all more =
    let Q = λ (o : Node). All P o.cells in
    let s = graph_seat g number in
    let objects : AllOfSeat P s = all_holds_or_default (AllOfSeat P) g.seats number absent_graph_seat all.seats (All-nil Q) in
    record {
      board = all.board;
      seats = All-set (AllOfSeat P) g.seats number (grown s c) (All-append Q s.objects c.more objects more) all.seats;
    }

pub AllCells-weaker : (P Q : Cell → Type 0) (g : Graph) → ((c : Cell) → P c → Q c) → AllCells P g → AllCells Q g
AllCells-weaker P Q g weaker all = record {
  board = All-weaker P Q weaker g.board.cells all.board;
  seats = All-weaker (AllOfSeat P) (AllOfSeat Q) (λ s. All-weaker (λ (o : Node). All P o.cells) (λ (o : Node). All Q o.cells) (λ o. All-weaker P Q weaker o.cells) s.objects) g.seats all.seats;
}

-- objects and sets only become more
pub record Grows (g h : Graph) : Type 0 where
  pub made : (seat : ℕ) → (own g seat).made ≤ (own h seat).made
  pub sets : (seat : ℕ) → (own g seat).sets ≤ (own h seat).sets

pub IsKnown-grows : (g h : Graph) (value : Value) → Grows g h → IsKnown g value → IsKnown h value
IsKnown-grows g h Nil grows known = tt
IsKnown-grows g h (Number n) grows known = tt
IsKnown-grows g h (Object Board) grows known = tt
IsKnown-grows g h (Object (Made number count)) grows known = omega (arith, grows.made number, known)

pub IsOld-grows : (g h : Graph) (stamp : ℕ) → Grows g h → IsOld g stamp → IsOld h stamp
IsOld-grows g h stamp grows old = λ seat n later few is. old seat n (omega (arith, grows.sets seat, later)) few is

pub Grows-changed : (g : Graph) (number : ℕ) (c : Change) → number < length g.seats → (own g number).sets ≤ c.sets → Grows g (changed g number c)
Grows-changed g number c within sets = record {
  made = λ seat. elim (cases_eq seat number) [
    | inl same ↦ subst (λ n. (own g n).made ≤ (own (changed g number c) n).made) (sym same) (let e = ap (λ (o : Own). o.made) (own-changed g number c within) in omega (arith, e))
    | inr apart ↦ (let e = ap (λ (o : Own). o.made) (own-changed_other g number seat c apart) in omega (arith, e))
  ];
  sets = λ seat. elim (cases_eq seat number) [
    | inl same ↦ subst (λ n. (own g n).sets ≤ (own (changed g number c) n).sets) (sym same) (let e = ap (λ (o : Own). o.sets) (own-changed g number c within) in omega (arith, e))
    | inr apart ↦ (let e = ap (λ (o : Own). o.sets) (own-changed_other g number seat c apart) in omega (arith, e))
  ];
}

-- what the set of a seat finds
pub record IsSetAt (g : Graph) (number : ℕ) (value : Value) (i stamp : ℕ) : Type 0 where
  pub cell : Cell
  pub found : look g value i ≡ Ok cell
  pub shown : cell.stamp ≡ stamp

cell_set : (c : Option Cell) (sets stamp : ℕ) → Sets sets (or_no_field c) (replies.Was stamp) → (cell : Cell) × (or_no_field c ≡ Ok cell) × (cell.stamp ≡ stamp)
cell_set None sets stamp says = absurd (let e : replies.Was stamp ≡ replies.NoField = says in cc)
cell_set (Some cell) sets stamp says = (let e : replies.Was stamp ≡ replies.Was cell.stamp = says.0 in (cell, refl, cc))

node_set : (o : Option Node) (i sets stamp : ℕ) → Sets sets (cell_or_refusal o i) (replies.Was stamp) → (cell : Cell) × (cell_or_refusal o i ≡ Ok cell) × (cell.stamp ≡ stamp)
node_set None i sets stamp says = absurd (let e : replies.Was stamp ≡ replies.NoObject = says in cc)
node_set (Some n) i sets stamp says = cell_set (slice_get n.cells i) sets stamp says

pub set_stands_at_cell : (g : Graph) (number r i v stamp : ℕ) → Says g number (commands.Set r i v) (replies.Was stamp) → IsSetAt g number (register_value g number r) i stamp
set_stands_at_cell g number r i v stamp says =
    let all = node_set (target_node g (register_value g number r)) i (own g number).sets stamp says in
    record { cell = all.0; found = all.1; shown = all.2 }

-- and a cas that swapped: it stands where a set would
swap_is_set : (sets stamp : ℕ) (seen : Cell) (found : Result Cell Reply) → Swaps sets seen found (replies.Was stamp) → Sets sets found (replies.Was stamp)
swap_is_set sets stamp seen (Ok cell) says = (ap replies.Was says.1, says.2)
swap_is_set sets stamp seen (Err refusal) says = says

pub swap_stands_at_cell : (g : Graph) (number r i a v stamp : ℕ) → Says g number (commands.Cas r i a v) (replies.Was stamp) → IsSetAt g number (register_value g number r) i stamp
swap_stands_at_cell g number r i a v stamp says =
    set_stands_at_cell g number r i v stamp (swap_is_set (own g number).sets stamp (register_cell g number a) (look g (register_value g number r) i) says)

-- what a cas finds that left the cell
cell_left : (c : Option Cell) (sets stamp : ℕ) (seen : Cell) → Swaps sets seen (or_no_field c) (replies.Now stamp) → (cell : Cell) × (or_no_field c ≡ Ok cell) × (cell.stamp ≡ stamp)
cell_left None sets stamp seen says = absurd (let e : replies.Now stamp ≡ replies.NoField = says in cc)
cell_left (Some cell) sets stamp seen says = (cell, refl, sym says.1)

node_left : (o : Option Node) (i sets stamp : ℕ) (seen : Cell) → Swaps sets seen (cell_or_refusal o i) (replies.Now stamp) → (cell : Cell) × (cell_or_refusal o i ≡ Ok cell) × (cell.stamp ≡ stamp)
node_left None i sets stamp seen says = absurd (let e : replies.Now stamp ≡ replies.NoObject = says in cc)
node_left (Some n) i sets stamp seen says = cell_left (slice_get n.cells i) sets stamp seen says

pub cas_finds_its_cell : (g : Graph) (number r i a v stamp : ℕ) → Says g number (commands.Cas r i a v) (replies.Now stamp) → (cell : Cell) × (look g (register_value g number r) i ≡ Ok cell) × (cell.stamp ≡ stamp)
cas_finds_its_cell g number r i a v stamp says = node_left (target_node g (register_value g number r)) i (own g number).sets stamp (register_cell g number a) says

-- what a get finds
cell_got : (c : Option Cell) (value : Value) (stamp : ℕ) → Gets (or_no_field c) (replies.Got value stamp) → (cell : Cell) × (or_no_field c ≡ Ok cell) × (cell.value ≡ value) × (cell.stamp ≡ stamp)
cell_got None value stamp says = absurd (let e : replies.Got value stamp ≡ replies.NoField = says in cc)
cell_got (Some cell) value stamp says = (let e : replies.Got value stamp ≡ replies.Got cell.value cell.stamp = says in (cell, refl, cc, cc))

node_got : (o : Option Node) (i : ℕ) (value : Value) (stamp : ℕ) → Gets (cell_or_refusal o i) (replies.Got value stamp) → (cell : Cell) × (cell_or_refusal o i ≡ Ok cell) × (cell.value ≡ value) × (cell.stamp ≡ stamp)
node_got None i value stamp says = absurd (let e : replies.Got value stamp ≡ replies.NoObject = says in cc)
node_got (Some n) i value stamp says = cell_got (slice_get n.cells i) value stamp says

pub get_finds_its_cell : (g : Graph) (number d r i : ℕ) (value : Value) (stamp : ℕ) → Says g number (commands.Get d r i) (replies.Got value stamp)
    → (cell : Cell) × (look g (register_value g number r) i ≡ Ok cell) × (cell.value ≡ value) × (cell.stamp ≡ stamp)
get_finds_its_cell g number d r i value stamp says = node_got (target_node g (register_value g number r)) i value stamp says
