-- A graph grows where one seat gets other registers, and where it makes an object.
use Rattle.std.proofs.Common.{◌≡◌, ℕ, zero, suc, ◌<◌, Bool, true, false, ◌⊎◌, inl, inr, List, ◌∷◌, length, get_or, set, replicate, Option, Some, IsSomeAnd, refl, sym, ap, ◌∙◌, subst, arith}
use Rattle.std.proofs.lemmas.Bool.{cases_eq}
use Rattle.std.proofs.lemmas.List.{get_or-replicate, length-replicate}
use Rattle.core_rule.proofs.Terms.{Id, Made, with_graph_seat, with_register, add, leave, Graph, Node, fresh, unset, graph_seat, register_value, node, IsMade, PointsTo}
use Rattle.core_rule.proofs.Terms.{Points}
use Rattle.heap_model.specs.declared.id.Value.TheVariants.{Nil, Object}
use Rattle.heap_model.specs.Limits.{register_count}
use Rattle.heap_model.specs.graph.Graph.{GraphSeat, unseen}
use Rattle.core_rule.proofs.growth.Growing.{CameFrom, was_held, was_unmade, IsSameSize, GrowsFrom}
use Rattle.core_rule.proofs.growth.RegisterIds.{RegisterHolds}
use Rattle.heap_model.proofs.graph_changes.GraphGrowth.{grown_party, added_node_is_object, new_id_has_no_node, other_nodes_stay_by_add}
use Rattle.heap_model.proofs.graph_changes.GraphSeats.{party_with_seat_is_new, other_party_stays, nodes_stay_with_seat}
use Rattle.core_rule.proofs.graph.IdsGrowth.{without_node_is_not_made}
use Rattle.heap_model.proofs.graph_changes.LeftSeats.{empty_register_is_nil}
use Rattle.core_rule.proofs.graph.Numbering.{same_id_test_decides}
use Rattle.heap_model.specs.declared.graph.cell.Cell.{Cell}

-- what stands in a list where one element was set is that, or what stood there
pub set_cases : {A : Type 0} (xs : List A) (i j : ℕ) (a d : A) → (get_or (set xs i a) j d ≡ a) ⊎ (get_or (set xs i a) j d ≡ get_or xs j d)
set_cases (x ∷ xs) zero zero a d = inl refl
set_cases (x ∷ xs) (suc i) (suc j) a d = set_cases xs i j a d
set_cases _ _ _ a d = inr refl

-- an object that stays as it is has its size
pub same_size_unchanged : (g now : Graph) (id : Id) (object : Node) → node now id ≡ node g id → node g id ≡ Some object → IsSameSize now id object
same_size_unchanged g now id object same is = record { later = object; there = same ∙ is; kind = refl; cells = refl }

-- a cell that was never set holds no id
pub fresh_empty : (array : Bool) (cells : ℕ) (id : Id) → ¬ PointsTo (fresh array cells) id
fresh_empty array cells id points =
    let below : points.0 < cells = omega (arith, points.2, length-replicate cells unset) in
    let cell : points.1 ≡ unset = sym points.3 ∙ get_or-replicate cells points.0 unset points.1 below in
    cc (cell, points.4)

-- a graph that stays as it is
pub grows_by_nothing : (g : Graph) → GrowsFrom g g
grows_by_nothing g = record {
  registers = λ number r id holds. was_held (record { number = number; register = r; holds = holds });
  cells = λ holder id points. inl points;
  objects = λ id object is. same_size_unchanged g g id object refl is;
}

module _ (g : Graph) (number : ℕ) (present : (graph_seat g number).left ≡ false) where
  -- the registers where one seat is another
  module _ (p : GraphSeat) (its : (r : ℕ) (id : Id) → (get_or p.registers r unset).value ≡ Object id → CameFrom g id) where
    registers_came : (s r : ℕ) (id : Id) → register_value (with_graph_seat g number p) s r ≡ Object id → CameFrom g id
    registers_came s r id holds = elim (cases_eq s number) [
      | inl e ↦ its r id (sym (ap (λ (x : GraphSeat). (get_or x.registers r unset).value) (party_with_seat_is_new g number p present)) ∙ subst (λ t. register_value (with_graph_seat g number p) t r ≡ Object id) e holds)
      | inr apart ↦ was_held (record { number = s; register = r; holds = sym (ap (λ (x : GraphSeat). (get_or x.registers r unset).value) (other_party_stays g number p present s apart)) ∙ holds })
    ]

    -- its objects stay
    grows_seat : p.objects ≡ (graph_seat g number).objects → GrowsFrom g (with_graph_seat g number p)
    grows_seat objects = record {
      registers = registers_came;
      cells = λ holder id points. inl (subst (λ (o : Option Node). IsSomeAnd o (λ x. PointsTo x id)) (nodes_stay_with_seat g number p present objects holder) points);
      objects = λ id object is. same_size_unchanged g (with_graph_seat g number p) id object (nodes_stay_with_seat g number p present objects id) is;
    }

  -- a register gets a value
  put_came : (d : ℕ) (cell : Cell) → ((id : Id) → cell.value ≡ Object id → CameFrom g id) → (r : ℕ) (id : Id) → (get_or (set (graph_seat g number).registers d cell) r unset).value ≡ Object id → CameFrom g id
  put_came d cell came r id holds = elim (set_cases (graph_seat g number).registers d r cell unset) [
    | inl new ↦ came id (sym (ap (λ (register : Cell). register.value) new) ∙ holds)
    | inr old ↦ was_held (record { number = number; register = r; holds = sym (ap (λ (register : Cell). register.value) old) ∙ holds })
  ]

  pub grows_by_put : (d : ℕ) (cell : Cell) → ((id : Id) → cell.value ≡ Object id → CameFrom g id) → GrowsFrom g (with_register g number d cell)
  grows_by_put d cell came = grows_seat (record (graph_seat g number) { registers = set (graph_seat g number).registers d cell }) (put_came d cell came) refl

  -- the seat leaves
  pub grows_by_leave : GrowsFrom g (leave g number)
  grows_by_leave = grows_seat (record (graph_seat g number) { registers = replicate register_count unset; left = true }) (λ r id holds. absurd (no_object r id (sym (empty_register_is_nil r) ∙ holds))) refl
    where
      no_object : (r : ℕ) (id : Id) → Nil ≡ Object id → ⊥
      no_object r id e = cc e

  -- it makes an object of cells that were never set
  module _ (d : ℕ) (array : Bool) (cells : ℕ) where
    abbrev new_id : Id
    new_id = Made number (length (graph_seat g number).objects)

    abbrev grown : Graph
    grown = add g number d (fresh array cells)

    unmade : (id : Id) → Object new_id ≡ Object id → ¬ IsMade g id
    unmade id e = let same : new_id ≡ id = cc e in subst (λ x. ¬ IsMade g x) same (without_node_is_not_made g new_id (new_id_has_no_node g number d (fresh array cells) present))

    cells_came : (holder id : Id) → Points grown holder id → Points g holder id ⊎ RegisterHolds g id
    cells_came holder id points = elim (same_id_test_decides holder new_id) [
      | inl e ↦ absurd (fresh_empty array cells id (subst (λ (o : Option Node). IsSomeAnd o (λ x. PointsTo x id)) (ap (node grown) e.1 ∙ added_node_is_object g number d (fresh array cells) present) points))
      | inr e ↦ inl (subst (λ (o : Option Node). IsSomeAnd o (λ x. PointsTo x id)) (other_nodes_stay_by_add g number d (fresh array cells) present holder e.1) points)
    ]

    stays_there : (id : Id) (object : Node) → node g id ≡ Some object → IsSameSize grown id object
    stays_there id object is =
        same_size_unchanged g grown id object (other_nodes_stay_by_add g number d (fresh array cells) present id (λ e. absurd (cc (ap (node g) e, is, new_id_has_no_node g number d (fresh array cells) present)))) is

    pub grows_by_add : GrowsFrom g grown
    grows_by_add = record {
      registers = registers_came (grown_party g number d (fresh array cells) present) (put_came d (unseen (Object new_id)) (λ id e. was_unmade (unmade id e)));
      cells = cells_came;
      objects = stays_there;
    }
