-- The graph after a seat made a record.
use Rattle.std.proofs.Common.{◌≡◌, ◌≢◌, ℕ, zero, suc, ◌+◌, ◌<◌, false, inl, inr, List, [], ◌∷◌, ◌++◌, length, get_or, set, slice_get, Some, None, refl, ap, ◌∙◌, arith, length-append}
use Rattle.std.proofs.lemmas.Bool.{cases_eq}
use Rattle.std.proofs.lemmas.List.{get_or-set_same, get_or-set_other}
use Rattle.heap_model.specs.declared.id.Value.TheVariants as values
use Rattle.heap_model.specs.graph.Graph.{GraphSeat, unseen, Graph, Node, unset}
use Rattle.heap_model.specs.declared.graph.cell.Cell.{Cell}
use Rattle.heap_model.specs.declared.id.Id.{Id}
use Rattle.heap_model.specs.declared.id.Id.TheVariants.{Board, Made}
use Rattle.heap_model.specs.graph.Changes.{add}
use Rattle.heap_model.specs.graph.Objects.{graph_seat, register_value, node, absent_graph_seat}

slice_get-push : {A : Type 0} (xs : List A) (x : A) → slice_get (xs ++ x ∷ []) (length xs) ≡ Some x
slice_get-push [] x = refl
slice_get-push (y ∷ xs) x = slice_get-push xs x

slice_get-before : {A : Type 0} (xs : List A) (x : A) (i : ℕ) → i ≢ length xs → slice_get (xs ++ x ∷ []) i ≡ slice_get xs i
slice_get-before [] x zero apart = absurd (apart refl)
slice_get-before [] x (suc i) apart = refl
slice_get-before (y ∷ xs) x zero apart = refl
slice_get-before (y ∷ xs) x (suc i) apart = slice_get-before xs x i (λ e. apart (omega (arith, e)))

slice_get-at_length : {A : Type 0} (xs : List A) → slice_get xs (length xs) ≡ None
slice_get-at_length [] = refl
slice_get-at_length (x ∷ xs) = slice_get-at_length xs

-- a seat that hasn't left is one of the graph's
pub present_seat_within_graph : (g : Graph) (number : ℕ) → (graph_seat g number).left ≡ false → number < length g.seats
present_seat_within_graph g number present = below g.seats number present
  where
    below : (seats : List GraphSeat) (number : ℕ) → (get_or seats number absent_graph_seat).left ≡ false → number < length seats
    below [] number present = absurd (cc)
    below (p ∷ seats) zero present = omega arith
    below (p ∷ seats) (suc number) present = omega (arith, below seats number present)

module _ (g : Graph) (number d : ℕ) (object : Node) (present : (graph_seat g number).left ≡ false) where
  -- the seat after it
  abbrev pub grown_party : GraphSeat
  grown_party = record (graph_seat g number) { registers = set (graph_seat g number).registers d (unseen (values.Object (Made number (length (graph_seat g number).objects)))); objects = (graph_seat g number).objects ++ object ∷ [] }

  -- what the graph has of the seat itself, and of the others
  party_same : graph_seat (add g number d object) number ≡ grown_party
  party_same = get_or-set_same g.seats number grown_party absent_graph_seat (present_seat_within_graph g number present)

  pub other_party_stays_by_add : (r : ℕ) → r ≢ number → graph_seat (add g number d object) r ≡ graph_seat g r
  other_party_stays_by_add r apart = get_or-set_other g.seats number r grown_party absent_graph_seat apart

  -- the registers: the seat's target holds the new object, the others stay
  pub target_holds_new_object : d < length (graph_seat g number).registers → register_value (add g number d object) number d ≡ values.Object (Made number (length (graph_seat g number).objects))
  target_holds_new_object within =
      ap (λ (p : GraphSeat). (get_or p.registers d unset).value) party_same
      ∙ ap (λ (register : Cell). register.value) (get_or-set_same (graph_seat g number).registers d (unseen (values.Object (Made number (length (graph_seat g number).objects)))) unset within)

  pub other_registers_stay_by_add : (i : ℕ) → i ≢ d → register_value (add g number d object) number i ≡ register_value g number i
  other_registers_stay_by_add i apart =
      ap (λ (p : GraphSeat). (get_or p.registers i unset).value) party_same
      ∙ ap (λ (register : Cell). register.value) (get_or-set_other (graph_seat g number).registers d i (unseen (values.Object (Made number (length (graph_seat g number).objects)))) unset apart)

  -- the seat has one object more, and hasn't left
  pub objects_grow_by_add : length (graph_seat (add g number d object) number).objects ≡ length (graph_seat g number).objects + 1
  objects_grow_by_add = ap (λ (p : GraphSeat). length p.objects) party_same ∙ omega (arith, length-append (graph_seat g number).objects (object ∷ []))

  pub sets_same_by_add : (graph_seat (add g number d object) number).sets ≡ (graph_seat g number).sets
  sets_same_by_add = ap (λ (p : GraphSeat). p.sets) party_same

  pub has_not_left_by_add : (graph_seat (add g number d object) number).left ≡ false
  has_not_left_by_add = ap (λ (p : GraphSeat). p.left) party_same ∙ present

  -- the new object, and the others
  pub added_node_is_object : node (add g number d object) (Made number (length (graph_seat g number).objects)) ≡ Some object
  added_node_is_object = ap (λ (p : GraphSeat). slice_get p.objects (length (graph_seat g number).objects)) party_same ∙ slice_get-push (graph_seat g number).objects object

  -- the new id had no object, has this one, and the others keep theirs
  pub new_id_has_no_node : node g (Made number (length (graph_seat g number).objects)) ≡ None
  new_id_has_no_node = slice_get-at_length (graph_seat g number).objects

  pub other_nodes_stay_by_add : (id : Id) → id ≢ Made number (length (graph_seat g number).objects) → node (add g number d object) id ≡ node g id
  other_nodes_stay_by_add Board apart = refl
  other_nodes_stay_by_add (Made s n) apart = elim (cases_eq s number) [
    | inl e ↦ rw e (ap (λ (p : GraphSeat). slice_get p.objects n) party_same
        ∙ slice_get-before (graph_seat g number).objects object n (λ same. apart (cc (e, same))))
    | inr ne ↦ ap (λ (p : GraphSeat). slice_get p.objects n) (other_party_stays_by_add s ne)
  ]
