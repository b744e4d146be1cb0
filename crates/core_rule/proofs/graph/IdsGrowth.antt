-- The ids that were made, when one more is.
use Rattle.std.proofs.Common.{◌≡◌, ◌≢◌, ℕ, ◌+◌, ◌<◌, inl, inr, List, [], ◌∷◌, ◌++◌, length, Option, Some, None, IsSome, refl, sym, ap, ◌∙◌, subst, arith, length-append}
use Rattle.std.proofs.lemmas.Bool.{cases_lt, false≢true}
use Rattle.core_rule.proofs.Terms.{Id, node, IsMade, Graph, Node, object_number, id_at, FitsName, AreMade}
use Rattle.core_rule.proofs.graph.Numbering.{same_id_test_decides, number_within_made, id_at_own_number, number_stays_by_append, new_number_is_next, id_stays_by_append, new_id_stands_last, first_stays_by_append}

-- an id with no object wasn't made
pub without_node_is_not_made : (g : Graph) (id : Id) → node g id ≡ None → IsMade g id → ⊥
without_node_is_not_made g id none is = false≢true (subst (λ (o : Option Node). IsSome o) none is)

-- the ids of a graph that has one object more
pub record OneMore (g now : Graph) (id : Id) (object : Node) : Type 0 where
  pub none : node g id ≡ None
  pub new : node now id ≡ Some object
  pub others : (x : Id) → x ≢ id → node now x ≡ node g x

module _ (g now : Graph) (made : List Id) (id : Id) (object : Node) (ids : AreMade g made) (more : OneMore g now id object) where
  -- it had no number yet
  pub new_number_is_length : object_number made id ≡ length made
  new_number_is_length = elim (cases_lt (object_number made id) (length made)) [
    | inl below ↦ absurd (without_node_is_not_made g id more.none (subst (λ x. IsMade g x) (id_at_own_number made id below) (ids.in_graph (object_number made id) below)))
    | inr past ↦ omega (arith, past, number_within_made made id)
  ]

  other_id : (i : ℕ) → i < length made → id_at made i ≢ id
  other_id i below e = without_node_is_not_made g id more.none (subst (λ x. IsMade g x) e (ids.in_graph i below))

  pub made_nodes_stay : (i : ℕ) → i < length made → node now (id_at (made ++ id ∷ []) i) ≡ node g (id_at made i)
  made_nodes_stay i below = ap (node now) (id_stays_by_append made id i below) ∙ more.others (id_at made i) (other_id i below)

  length_more : length (made ++ id ∷ []) ≡ length made + 1
  length_more = omega (arith, length-append made (id ∷ []))

  -- a number below the new length is an old one or the new
  pub old_or_new_cases : (P : ℕ → Type 0) → ((i : ℕ) → i < length made → P i) → P (length made) → (i : ℕ) → i < length (made ++ id ∷ []) → P i
  old_or_new_cases P old new i below = elim (cases_lt i (length made)) [
    | inl less ↦ old i less
    | inr past ↦ let e : length made ≡ i = omega (arith, past, below, length_more) in subst P e new
  ]

  made_in_graph : (i : ℕ) → i < length (made ++ id ∷ []) → IsMade now (id_at (made ++ id ∷ []) i)
  made_in_graph = old_or_new_cases (λ i. IsMade now (id_at (made ++ id ∷ []) i))
      (λ i below. subst (λ (o : Option Node). IsSome o) (sym (made_nodes_stay i below)) (ids.in_graph i below))
      (subst (λ (o : Option Node). IsSome o) (sym (ap (node now) (new_id_stands_last made id) ∙ more.new)) refl)

  made_distinct : (i : ℕ) → i < length (made ++ id ∷ []) → object_number (made ++ id ∷ []) (id_at (made ++ id ∷ []) i) ≡ i
  made_distinct = old_or_new_cases (λ i. object_number (made ++ id ∷ []) (id_at (made ++ id ∷ []) i) ≡ i)
      (λ i below. ap (object_number (made ++ id ∷ [])) (id_stays_by_append made id i below)
      ∙ number_stays_by_append made id (id_at made i) (omega (arith, ids.distinct i below, below)) ∙ ids.distinct i below)
      (ap (object_number (made ++ id ∷ [])) (new_id_stands_last made id) ∙ new_number_is_next made id new_number_is_length)

  made_numbered : (x : Id) → IsMade now x → (object_number (made ++ id ∷ []) x < length (made ++ id ∷ [])) × (id_at (made ++ id ∷ []) (object_number (made ++ id ∷ []) x) ≡ x)
  made_numbered x is = elim (same_id_test_decides x id) [
    | inl e ↦ subst (λ y. (object_number (made ++ id ∷ []) y < length (made ++ id ∷ [])) × (id_at (made ++ id ∷ []) (object_number (made ++ id ∷ []) y) ≡ y)) (sym e.1)
        (omega (arith, new_number_is_next made id new_number_is_length, length_more), ap (id_at (made ++ id ∷ [])) (new_number_is_next made id new_number_is_length) ∙ new_id_stands_last made id)
    | inr e ↦ old (ids.numbered x (subst (λ (o : Option Node). IsSome o) (more.others x e.1) is))
  ]
    where
      old : (object_number made x < length made) × (id_at made (object_number made x) ≡ x)
          → (object_number (made ++ id ∷ []) x < length (made ++ id ∷ [])) × (id_at (made ++ id ∷ []) (object_number (made ++ id ∷ []) x) ≡ x)
      old it =
          let same : object_number (made ++ id ∷ []) x ≡ object_number made x = number_stays_by_append made id x it.0 in
          (omega (arith, same, it.0, length_more), ap (id_at (made ++ id ∷ [])) same ∙ id_stays_by_append made id (object_number made x) it.0 ∙ it.1)

  -- the ids with the new one are the graph's
  pub are_made_with_new : FitsName id → AreMade now (made ++ id ∷ [])
  are_made_with_new name = record {
    board = first_stays_by_append made id _ ids.board;
    in_graph = made_in_graph;
    numbered = made_numbered;
    distinct = made_distinct;
    fit = old_or_new_cases (λ i. FitsName (id_at (made ++ id ∷ []) i)) (λ i below. subst FitsName (sym (id_stays_by_append made id i below)) (ids.fit i below))
        (subst FitsName (sym (new_id_stands_last made id)) name);
  }
