-- The graph after a set: one cell of one object is another, and its seat did one more set.
use Rattle.std.proofs.Common.{◌≡◌, ◌≢◌, ℕ, zero, suc, ◌+◌, ◌<◌, false, inl, inr, List, [], ◌∷◌, length, get_or, set, slice_get, Some, refl, sym, ap, ◌∙◌, subst, arith}
use Rattle.std.proofs.lemmas.Bool.{cases_eq}
use Rattle.std.proofs.lemmas.List.{get_or-set_same, get_or-set_other, length-set}
use Rattle.std.proofs.lemmas.Option.{slice_get_within, slice_get-get_or, get_or_from_slice_get}
use Rattle.heap_model.specs.declared.graph.cell.Cell.{Cell}
use Rattle.heap_model.specs.declared.id.Value.TheVariants as values
use Rattle.heap_model.specs.graph.Graph.{GraphSeat, Graph, Node, fresh}
use Rattle.heap_model.proofs.graph_changes.GraphSeats.{party_with_seat_is_new, other_party_stays, nodes_stay_with_seat}
use Rattle.heap_model.proofs.graph_changes.SameParties.{SameParty, same_party_of_same_graph}
use Rattle.heap_model.specs.declared.id.Id.{Id}
use Rattle.heap_model.specs.declared.id.Id.TheVariants.{Board, Made}
use Rattle.heap_model.specs.graph.Changes.{with_cell, with_object_cell, with_graph_seat, count_set, write}
use Rattle.heap_model.specs.graph.Objects.{graph_seat, node, absent_graph_seat}

-- what stands in a list where one element was set
pub slice_get-set_same : {A : Type 0} (xs : List A) (i : ℕ) (a : A) → i < length xs → slice_get (set xs i a) i ≡ Some a
slice_get-set_same xs i a within = slice_get-get_or (set xs i a) i a (omega (arith, within, length-set xs i a)) ∙ ap Some (get_or-set_same xs i a a within)

pub slice_get-set_other : {A : Type 0} (xs : List A) (i j : ℕ) (a : A) → j ≢ i → slice_get (set xs i a) j ≡ slice_get xs j
slice_get-set_other (x ∷ xs) zero zero a apart = absurd (apart refl)
slice_get-set_other (x ∷ xs) (suc i) (suc j) a apart = slice_get-set_other xs i j a (λ e. apart (ap suc e))
slice_get-set_other _ _ _ a apart = refl

-- each seat has what it had after both of two such steps
party_then : (g c now : Graph) (r : ℕ) → SameParty g c r → SameParty c now r → SameParty g now r
party_then g c now r one two = record {
  registers = two.registers ∙ one.registers;
  objects = two.objects ∙ one.objects;
  sets = two.sets ∙ one.sets;
  left = two.left ∙ one.left;
}

-- the object has another cell, and no other object has, nor has a seat other data
pub record Writes (g now : Graph) (id : Id) (i : ℕ) (cell : Cell) : Type 0 where
  pub written : (object : Node) → node g id ≡ Some object → node now id ≡ Some (with_cell object i cell)
  pub rest : (x : Id) → x ≢ id → node now x ≡ node g x
  pub parties : (r : ℕ) → SameParty g now r

-- a seat with an object is one of the graph's
maker_below : (seats : List GraphSeat) (t n : ℕ) (object : Node) → slice_get (get_or seats t absent_graph_seat).objects n ≡ Some object → t < length seats
maker_below [] t n object there = absurd (cc)
maker_below (p ∷ seats) zero n object there = omega arith
maker_below (p ∷ seats) (suc t) n object there = omega (arith, maker_below seats t n object there)

module _ (g : Graph) (t n i : ℕ) (cell : Cell) (object : Node) (there : node g (Made t n) ≡ Some object) where
  abbrev new_party : GraphSeat
  new_party = with_object_cell (graph_seat g t) n i cell

  here : t < length g.seats
  here = maker_below g.seats t n object there

  party_here : graph_seat (with_graph_seat g t new_party) t ≡ new_party
  party_here = get_or-set_same g.seats t new_party absent_graph_seat here

  party_there : (r : ℕ) → r ≢ t → graph_seat (with_graph_seat g t new_party) r ≡ graph_seat g r
  party_there r apart = get_or-set_other g.seats t r new_party absent_graph_seat apart

  object_was : get_or (graph_seat g t).objects n (fresh false 0) ≡ object
  object_was = get_or_from_slice_get (graph_seat g t).objects n object (fresh false 0) there

  node_here : node (with_graph_seat g t new_party) (Made t n) ≡ Some (with_cell object i cell)
  node_here = ap (λ (p : GraphSeat). slice_get p.objects n) party_here
      ∙ slice_get-set_same (graph_seat g t).objects n (with_cell (get_or (graph_seat g t).objects n (fresh false 0)) i cell) (slice_get_within (graph_seat g t).objects n object there)
      ∙ ap (λ o. Some (with_cell o i cell)) object_was

  node_rest : (x : Id) → x ≢ Made t n → node (with_graph_seat g t new_party) x ≡ node g x
  node_rest Board apart = refl
  node_rest (Made s m) apart = elim (cases_eq s t) [
    | inl e ↦ subst (λ z. node (with_graph_seat g t new_party) (Made z m) ≡ node g (Made z m)) (sym e)
        (ap (λ (p : GraphSeat). slice_get p.objects m) party_here
        ∙ slice_get-set_other (graph_seat g t).objects n m (with_cell (get_or (graph_seat g t).objects n (fresh false 0)) i cell) (λ f. apart (cc (e, f))))
    | inr ne ↦ ap (λ (p : GraphSeat). slice_get p.objects m) (party_there s ne)
  ]

  parties_stay : (r : ℕ) → SameParty g (with_graph_seat g t new_party) r
  parties_stay r = elim (cases_eq r t) [
    | inl e ↦ subst (λ z. SameParty g (with_graph_seat g t new_party) z) (sym e) record {
      registers = ap (λ (p : GraphSeat). p.registers) party_here;
      objects = ap (λ (p : GraphSeat). length p.objects) party_here ∙ length-set (graph_seat g t).objects n (with_cell (get_or (graph_seat g t).objects n (fresh false 0)) i cell);
      sets = ap (λ (p : GraphSeat). p.sets) party_here;
      left = ap (λ (p : GraphSeat). p.left) party_here;
    }
    | inr ne ↦ same_party_of_same_graph g (with_graph_seat g t new_party) r (party_there r ne)
  ]

-- a write to an object that is there
writes : (g : Graph) (id : Id) (i : ℕ) (cell : Cell) (object : Node) → node g id ≡ Some object → Writes g (write g (values.Object id) i cell) id i cell
writes g Board i cell object there = record {
  written = λ o is. ap (λ x. Some (with_cell x i cell)) (the_board o is);
  rest = λ x apart. board_alone x apart;
  parties = λ r. record { registers = refl; objects = refl; sets = refl; left = refl };
}
  where
    the_board : (o : Node) → node g Board ≡ Some o → g.board ≡ o
    the_board o is = cc

    board_alone : (x : Id) → x ≢ Board → node (write g (values.Object Board) i cell) x ≡ node g x
    board_alone Board apart = absurd (apart refl)
    board_alone (Made s m) apart = refl
writes g (Made t n) i cell object there = record {
  written = λ o is. node_here g t n i cell o is;
  rest = node_rest g t n i cell object there;
  parties = parties_stay g t n i cell object there;
}

-- after a set the graph has the cell, and its seat one set more
pub record Sets (g now : Graph) (number : ℕ) (id : Id) (i : ℕ) (cell : Cell) : Type 0 where
  pub written : (object : Node) → node g id ≡ Some object → node now id ≡ Some (with_cell object i cell)
  pub rest : (x : Id) → x ≢ id → node now x ≡ node g x
  pub others : (r : ℕ) → r ≢ number → SameParty g now r
  pub registers : (graph_seat now number).registers ≡ (graph_seat g number).registers
  pub objects : length (graph_seat now number).objects ≡ length (graph_seat g number).objects
  pub sets : (graph_seat now number).sets ≡ (graph_seat g number).sets + 1
  pub left : (graph_seat now number).left ≡ (graph_seat g number).left

pub write_sets_cell : (g : Graph) (number : ℕ) (id : Id) (i : ℕ) (cell : Cell) (object : Node) → (graph_seat g number).left ≡ false → node g id ≡ Some object
    → Sets g (write (count_set g number) (values.Object id) i cell) number id i cell
write_sets_cell g number id i cell object present there =
    let one_more : GraphSeat = record (graph_seat g number) { sets = (graph_seat g number).sets + 1 } in
    let counted : graph_seat (count_set g number) number ≡ one_more = party_with_seat_is_new g number one_more present in
    let nodes : (x : Id) → node (count_set g number) x ≡ node g x = nodes_stay_with_seat g number one_more present refl in
    let w = writes (count_set g number) id i cell object (nodes id ∙ there) in
    record {
      written = λ o is. w.written o (nodes id ∙ is);
      rest = λ x apart. w.rest x apart ∙ nodes x;
      others = λ r apart. party_then g (count_set g number) (write (count_set g number) (values.Object id) i cell) r (same_party_of_same_graph g (count_set g number) r (other_party_stays g number one_more present r apart)) (w.parties r);
      registers = (w.parties number).registers ∙ ap (λ (p : GraphSeat). p.registers) counted;
      objects = (w.parties number).objects ∙ ap (λ (p : GraphSeat). length p.objects) counted;
      sets = (w.parties number).sets ∙ ap (λ (p : GraphSeat). p.sets) counted;
      left = (w.parties number).left ∙ ap (λ (p : GraphSeat). p.left) counted;
    }
