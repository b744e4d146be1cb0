-- What is found in a cell after a change.
use Rattle.std.proofs.Common.{◌≡◌, ℕ, ◌<◌, ◌⊎◌, inl, inr, false, List, ◌++◌, length, get_or, set, slice_get, Option, Some, None, Result, Ok, refl, sym, ap, ◌∙◌, subst, arith, length-append, length-set}
use Rattle.std.proofs.lemmas.Bool.{cases_lt, cases_eq}
use Rattle.std.proofs.lemmas.List.{get_or-set_same, get_or-set_other, get_or_append_left, get_or_past, set_past}
use Rattle.std.proofs.lemmas.Option.{slice_get-get_or, slice_get_within, slice_get_past}
use Rattle.heap_model.specs.declared.id.Id.{Id}
use Rattle.heap_model.specs.declared.id.Id.TheVariants.{Board, Made}
use Rattle.heap_model.specs.declared.id.Value.{Value}
use Rattle.heap_model.specs.declared.id.Value.TheVariants.{Nil, Number, Object}
use Rattle.heap_model.specs.declared.graph.cell.Cell.{Cell}
use Rattle.heap_model.specs.declared.reply.Reply.{Reply}
use Rattle.heap_model.specs.declared.reply.Reply.TheVariants as replies
use Rattle.heap_model.specs.graph.Objects.{graph_seat, absent_graph_seat, target_node, cell_or_refusal, or_no_field}
use Rattle.heap_model.specs.graph.Replies.{length_reply}
use Rattle.heap_model.specs.graph.Graph.{Node, GraphSeat, Graph, fresh}
use Rattle.heap_model.specs.graph.Changes.{with_graph_seat, with_cell, with_object_cell, write}
use Rattle.log_merge.proofs.merge_lemmas.Changes.{Change, grown, seat_changed, changed}

-- what is found at the cell i of what the value refers to
abbrev pub look : Graph → Value → ℕ → Result Cell Reply
look g value i = cell_or_refusal (target_node g value) i

-- how long it is
abbrev pub len : Graph → Value → Reply
len g value = length_reply (target_node g value)

-- what the value refers to was made, if it refers to anything
abbrev pub IsKnown : Graph → Value → Type 0
IsKnown g Nil = Unit {0}
IsKnown g (Number n) = Unit {0}
IsKnown g (Object Board) = Unit {0}
IsKnown g (Object (Made number count)) = count < length (graph_seat g number).objects

-- two lists with the same elements at a position
slice_get-set_other : {A : Type 0} (xs : List A) (i j : ℕ) (x : A) → (j ≡ i → ⊥) → slice_get (set xs i x) j ≡ slice_get xs j
slice_get-set_other xs i j x apart = elim (cases_lt j (length xs)) [
  | inl within ↦ slice_get-get_or (set xs i x) j x (omega (arith, length-set xs i x)) ∙ ap Some (get_or-set_other xs i j x x apart) ∙ sym (slice_get-get_or xs j x within)
  | inr past ↦ slice_get_past (set xs i x) j (omega (arith, length-set xs i x)) ∙ sym (slice_get_past xs j past)
]

slice_get-set_same : {A : Type 0} (xs : List A) (i : ℕ) (x : A) → i < length xs → slice_get (set xs i x) i ≡ Some x
slice_get-set_same xs i x within = slice_get-get_or (set xs i x) i x (omega (arith, length-set xs i x)) ∙ ap Some (get_or-set_same xs i x x within)

slice_get-append_left : {A : Type 0} (xs ys : List A) (i : ℕ) (d : A) → i < length xs → slice_get (xs ++ ys) i ≡ slice_get xs i
slice_get-append_left xs ys i d within =
    slice_get-get_or (xs ++ ys) i d (omega (arith, length-append xs ys)) ∙ ap Some (get_or_append_left xs ys d i within) ∙ sym (slice_get-get_or xs i d within)

-- the objects of a seat after another seat is put in
seat-other : (g : Graph) (number other : ℕ) (seat : GraphSeat) → (other ≡ number → ⊥) → graph_seat (with_graph_seat g number seat) other ≡ graph_seat g other
seat-other g number other seat apart = get_or-set_other g.seats number other seat absent_graph_seat apart

seat-same : (g : Graph) (number : ℕ) (seat : GraphSeat) → number < length g.seats → graph_seat (with_graph_seat g number seat) number ≡ seat
seat-same g number seat within = get_or-set_same g.seats number seat absent_graph_seat within

-- a seat with an object is there
pub object_seat_is_there : (g : Graph) (number count : ℕ) → count < length (graph_seat g number).objects → number < length g.seats
object_seat_is_there g number count made = elim (cases_lt number (length g.seats)) [
  | inl within ↦ within
  | inr past ↦ absurd (let none : length (graph_seat g number).objects ≡ 0 = ap (λ (s : GraphSeat). length s.objects) (get_or_past g.seats number absent_graph_seat past) in omega arith)
]

-- what was made stays as it is where a seat grows
target-seat_changed : (g : Graph) (number : ℕ) (c : Change) (value : Value) → IsKnown g value → target_node (seat_changed g number c) value ≡ target_node g value
target-seat_changed g number c Nil known = refl
target-seat_changed g number c (Number n) known = refl
target-seat_changed g number c (Object Board) known = refl
target-seat_changed g number c (Object (Made other count)) known = elim (cases_eq other number) [
  | inl same ↦ (
      let here : number < length g.seats = subst (λ n. n < length g.seats) same (object_seat_is_there g other count known) in
      let objects : (graph_seat (seat_changed g number c) other).objects ≡ (graph_seat g other).objects ++ c.more =
      ap (λ n. (graph_seat (seat_changed g number c) n).objects) same ∙ ap (λ (s : GraphSeat). s.objects) (seat-same g number (grown (graph_seat g number) c) here) ∙ ap (λ n. (graph_seat g n).objects ++ c.more) (sym same) in
      ap (λ os. slice_get os count) objects ∙ slice_get-append_left (graph_seat g other).objects c.more count (fresh false 0) known)
  | inr apart ↦ ap (λ (s : GraphSeat). slice_get s.objects count) (seat-other g number other (grown (graph_seat g number) c) apart)
]

-- and is still known
pub IsKnown-seat_changed : (g : Graph) (number : ℕ) (c : Change) (value : Value) → IsKnown g value → IsKnown (seat_changed g number c) value
IsKnown-seat_changed g number c Nil known = tt
IsKnown-seat_changed g number c (Number n) known = tt
IsKnown-seat_changed g number c (Object Board) known = tt
IsKnown-seat_changed g number c (Object (Made other count)) known =
    let still = target-seat_changed g number c (Object (Made other count)) known in
    let s = graph_seat g other in
    slice_get_within (graph_seat (seat_changed g number c) other).objects count (get_or s.objects count (fresh false 0)) (still ∙ slice_get-get_or s.objects count (fresh false 0) known)

-- a cell of an object is written
node_found : (object : Option Node) (i : ℕ) (cell : Cell) → cell_or_refusal object i ≡ Ok cell → (n : Node) × (object ≡ Some n) × (i < length n.cells)
node_found None i cell found = absurd cc
node_found (Some n) i cell found = elim (cases_lt i (length n.cells)) [
  | inl within ↦ (n, refl, within)
  | inr past ↦ absurd (let gone = slice_get_past n.cells i past in let e : or_no_field None ≡ Ok cell = subst (λ o. or_no_field o ≡ Ok cell) gone found in cc)
]

-- what stands for an object with another cell i
abbrev pub option_with_cell : Option Node → ℕ → Cell → Option Node
option_with_cell None i cell = None
option_with_cell (Some n) i cell = Some (with_cell n i cell)

-- the object that is written
target-write_same : (g : Graph) (value : Value) (i : ℕ) (cell : Cell) → target_node (write g value i cell) value ≡ option_with_cell (target_node g value) i cell
target-write_same g Nil i cell = refl
target-write_same g (Number n) i cell = refl
target-write_same g (Object Board) i cell = refl
target-write_same g (Object (Made other count)) i cell = elim (cases_lt count (length (graph_seat g other).objects)) [
  | inl within ↦ (
      let s = graph_seat g other in
      let put = with_cell (get_or s.objects count (fresh false 0)) i cell in
      ap (λ (t : GraphSeat). slice_get t.objects count) (seat-same g other (with_object_cell s count i cell) (object_seat_is_there g other count within))
      ∙ slice_get-set_same s.objects count put within
      ∙ ap (λ o. option_with_cell o i cell) (sym (slice_get-get_or s.objects count (fresh false 0) within)))
  | inr past ↦ (
      let s = graph_seat g other in
      let put = with_cell (get_or s.objects count (fresh false 0)) i cell in
      let nothing : with_object_cell s count i cell ≡ s = ap (λ (os : List Node). record s { objects = os }) (set_past s.objects count put past) in
      let same : graph_seat (write g (Object (Made other count)) i cell) other ≡ s = elim (cases_lt other (length g.seats)) [
        | inl there ↦ seat-same g other (with_object_cell s count i cell) there ∙ nothing
        | inr absent ↦ ap (λ seats. get_or seats other absent_graph_seat) (set_past g.seats other (with_object_cell s count i cell) absent)
      ] in
      ap (λ (t : GraphSeat). slice_get t.objects count) same ∙ slice_get_past s.objects count past ∙ ap (λ o. option_with_cell o i cell) (sym (slice_get_past s.objects count past)))
]

-- any other
target-write_other : (g : Graph) (value other : Value) (i : ℕ) (cell : Cell) → (other ≡ value → ⊥) → target_node (write g value i cell) other ≡ target_node g other
target-write_other g Nil other i cell apart = refl
target-write_other g (Number n) other i cell apart = refl
target-write_other g (Object Board) Nil i cell apart = refl
target-write_other g (Object Board) (Number n) i cell apart = refl
target-write_other g (Object Board) (Object Board) i cell apart = absurd (apart refl)
target-write_other g (Object Board) (Object (Made t k)) i cell apart = refl
target-write_other g (Object (Made s n)) Nil i cell apart = refl
target-write_other g (Object (Made s n)) (Number m) i cell apart = refl
target-write_other g (Object (Made s n)) (Object Board) i cell apart = refl
target-write_other g (Object (Made s n)) (Object (Made t k)) i cell apart = elim (cases_eq t s) [
  | inr seats ↦ ap (λ (u : GraphSeat). slice_get u.objects k) (seat-other g s t (with_object_cell (graph_seat g s) n i cell) seats)
  | inl same ↦ elim (cases_lt s (length g.seats)) [
    | inr absent ↦ ap (λ seats. slice_get (get_or seats t absent_graph_seat).objects k) (set_past g.seats s (with_object_cell (graph_seat g s) n i cell) absent)
    | inl there ↦ (
        let counts : k ≡ n → ⊥ = λ e. apart (ap (λ x. Object (Made x k)) same ∙ ap (λ x. Object (Made s x)) e) in
        ap (λ x. slice_get (graph_seat (write g (Object (Made s n)) i cell) x).objects k) same
        ∙ ap (λ (u : GraphSeat). slice_get u.objects k) (seat-same g s (with_object_cell (graph_seat g s) n i cell) there)
        ∙ slice_get-set_other (graph_seat g s).objects n k _ counts
        ∙ ap (λ x. slice_get (graph_seat g x).objects k) (sym same))
  ]
]

-- two ids, and two values, are equal or not
same_id : (a b : Id) → (a ≡ b) ⊎ (a ≡ b → ⊥)
same_id Board Board = inl refl
same_id Board (Made t k) = inr (λ e. cc)
same_id (Made s n) Board = inr (λ e. cc)
same_id (Made s n) (Made t k) = elim (cases_eq s t) [
  | inr seats ↦ inr (λ e. seats cc)
  | inl same ↦ elim (cases_eq n k) [ inl equal ↦ inl cc | inr counts ↦ inr (λ e. counts cc) ]
]

pub values_equal_or_apart : (a b : Value) → (a ≡ b) ⊎ (a ≡ b → ⊥)
values_equal_or_apart Nil Nil = inl refl
values_equal_or_apart Nil (Number n) = inr (λ e. cc)
values_equal_or_apart Nil (Object b) = inr (λ e. cc)
values_equal_or_apart (Number m) Nil = inr (λ e. cc)
values_equal_or_apart (Number m) (Number n) = elim (cases_eq m n) [ inl same ↦ inl cc | inr apart ↦ inr (λ e. apart cc) ]
values_equal_or_apart (Number m) (Object b) = inr (λ e. cc)
values_equal_or_apart (Object a) Nil = inr (λ e. cc)
values_equal_or_apart (Object a) (Number n) = inr (λ e. cc)
values_equal_or_apart (Object a) (Object b) = elim (same_id a b) [ inl same ↦ inl cc | inr apart ↦ inr (λ e. apart cc) ]

-- lengths stay
len-with_cell : (o : Option Node) (i : ℕ) (cell : Cell) → length_reply (option_with_cell o i cell) ≡ length_reply o
len-with_cell None i cell = refl
len-with_cell (Some n) i cell = ap replies.Length (length-set n.cells i cell)

len-write : (g : Graph) (value : Value) (i : ℕ) (cell : Cell) (other : Value) → len (write g value i cell) other ≡ len g other
len-write g value i cell other = elim (values_equal_or_apart other value) [
  | inl same ↦ ap (λ v. len (write g value i cell) v) same ∙ ap length_reply (target-write_same g value i cell) ∙ len-with_cell (target_node g value) i cell ∙ ap (λ v. len g v) (sym same)
  | inr apart ↦ ap length_reply (target-write_other g value other i cell apart)
]

pub len-changed : (g : Graph) (number : ℕ) (c : Change) (value : Value) → IsKnown g value → len (changed g number c) value ≡ len g value
len-changed g number c value known = len-write (seat_changed g number c) c.place c.index c.cell value ∙ ap length_reply (target-seat_changed g number c value known)

-- any other cell stays
look-with_cell_other : (o : Option Node) (i j : ℕ) (cell : Cell) → (j ≡ i → ⊥) → cell_or_refusal (option_with_cell o i cell) j ≡ cell_or_refusal o j
look-with_cell_other None i j cell apart = refl
look-with_cell_other (Some n) i j cell apart = ap or_no_field (slice_get-set_other n.cells i j cell apart)

look-write_here : (g : Graph) (value : Value) (i : ℕ) (cell : Cell) (other : Value) (j : ℕ) → (other ≡ value → j ≡ i → ⊥) → look (write g value i cell) other j ≡ look g other j
look-write_here g value i cell other j apart = elim (values_equal_or_apart other value) [
  | inl same ↦ ap (λ v. look (write g value i cell) v j) same ∙ ap (λ o. cell_or_refusal o j) (target-write_same g value i cell)
      ∙ look-with_cell_other (target_node g value) i j cell (apart same) ∙ ap (λ v. look g v j) (sym same)
  | inr others ↦ ap (λ o. cell_or_refusal o j) (target-write_other g value other i cell others)
]

look-write_other : (g : Graph) (value : Value) (i : ℕ) (cell : Cell) (other : Value) (j : ℕ) → ((id : Id) → value ≡ Object id → other ≡ value → j ≡ i → ⊥) → look (write g value i cell) other j ≡ look g other j
look-write_other g Nil i cell other j apart = refl
look-write_other g (Number n) i cell other j apart = refl
look-write_other g (Object id) i cell other j apart = look-write_here g (Object id) i cell other j (apart id refl)

-- the cell that is written is found
look-with_cell_same : (o : Option Node) (i : ℕ) (cell : Cell) (n : Node) → o ≡ Some n → i < length n.cells → cell_or_refusal (option_with_cell o i cell) i ≡ Ok cell
look-with_cell_same o i cell n is within = ap (λ x. cell_or_refusal (option_with_cell x i cell) i) is ∙ ap or_no_field (slice_get-set_same n.cells i cell within)

look-write_same : (g : Graph) (value : Value) (i : ℕ) (cell old : Cell) → look g value i ≡ Ok old → look (write g value i cell) value i ≡ Ok cell
look-write_same g value i cell old found =
    let there = node_found (target_node g value) i old found in
    ap (λ o. cell_or_refusal o i) (target-write_same g value i cell) ∙ look-with_cell_same (target_node g value) i cell there.0 there.1 there.2

look-seat_changed : (g : Graph) (number : ℕ) (c : Change) (value : Value) (j : ℕ) → IsKnown g value → look (seat_changed g number c) value j ≡ look g value j
look-seat_changed g number c value j known = ap (λ o. cell_or_refusal o j) (target-seat_changed g number c value known)

pub look-changed_other : (g : Graph) (number : ℕ) (c : Change) (value : Value) (j : ℕ) → IsKnown g value → ((id : Id) → c.place ≡ Object id → value ≡ c.place → j ≡ c.index → ⊥) → look (changed g number c) value j ≡ look g value j
look-changed_other g number c value j known apart = look-write_other (seat_changed g number c) c.place c.index c.cell value j apart ∙ look-seat_changed g number c value j known

pub look-changed_same : (g : Graph) (number : ℕ) (c : Change) (old : Cell) → IsKnown g c.place → look g c.place c.index ≡ Ok old → look (changed g number c) c.place c.index ≡ Ok c.cell
look-changed_same g number c old known found = look-write_same (seat_changed g number c) c.place c.index c.cell old (look-seat_changed g number c c.place c.index known ∙ found)

-- where a cell is found, there is an object
pub found_look_is_known : (g : Graph) (value : Value) (i : ℕ) (cell : Cell) → look g value i ≡ Ok cell → IsKnown g value
found_look_is_known g Nil i cell found = tt
found_look_is_known g (Number n) i cell found = tt
found_look_is_known g (Object Board) i cell found = tt
found_look_is_known g (Object (Made number count)) i cell found =
    let there = node_found (target_node g (Object (Made number count))) i cell found in
    slice_get_within (graph_seat g number).objects count there.0 there.1
