-- Whether an object is reached is decided in as many rounds as there are objects, and one more.
use Rattle.std.specs.Option.{IsSomeAnd}
use Rattle.std.proofs.Common.{◌≡◌, ℕ, zero, suc, ◌≤◌, ◌⊎◌, inl, inr, List, length, Option, None, Some, IsSome, Any, refl, arith}
use Rattle.std.proofs.lemmas.Bool.{false≢true}
use Rattle.core_rule.proofs.Terms.{Id, Value, Graph, Node, node, IsMade, IsRegistered, PointsTo, Points, IsRoot, Reaches, from_register, from_cell}
use Rattle.heap_model.specs.declared.id.Value.TheVariants.{Nil, Number, Object}
use Rattle.heap_model.specs.graph.Graph.{GraphSeat}
use Rattle.core_rule.proofs.graph.Numbering.{same_id_test_decides}
use Rattle.core_rule.proofs.reach.IdLists.{AreAll, all_are_listed}
use Rattle.core_rule.proofs.lists.Decided.{Decided, both_decided, either_decided, any_of_contained, any_decided, count_of, count_within_length, list_grows}

-- values are the same or not
refers_decided : (v : Value) (id : Id) → Decided (v ≡ Object id)
refers_decided Nil id = inr (λ e. cc)
refers_decided (Number n) id = inr (λ e. cc)
refers_decided (Object other) id = elim (same_id_test_decides other id) [ inl same ↦ inl (cc (same.1)) | inr apart ↦ inr (λ e. apart.1 (cc)) ]

registered_decided : (seat : GraphSeat) (id : Id) → Decided (IsRegistered seat id)
registered_decided seat id = any_decided (λ register. register.value ≡ Object id) (λ register. refers_decided register.value id) seat.registers

points_decided : (g : Graph) (holder id : Id) → Decided (Points g holder id)
points_decided g holder id = by (node g holder)
  where
    by : (o : Option Node) → Decided (IsSomeAnd o (λ object. PointsTo object id))
    by None = inr (λ none. none)
    by (Some object) = any_decided (λ cell. cell.value ≡ Object id) (λ cell. refers_decided cell.value id) object.cells

root_decided : (g : Graph) (id : Id) → Decided (IsRoot g id)
root_decided g id = any_decided (λ seat. IsRegistered seat id) (λ seat. registered_decided seat id) g.seats

made_decided : (g : Graph) (id : Id) → Decided (IsMade g id)
made_decided g id = by (node g id)
  where
    by : (o : Option Node) → Decided (IsSome o)
    by None = inr false≢true
    by (Some object) = inl refl

module _ (g : Graph) where
  -- all ids that were made
  made_ids : (ids : List Id) × AreAll (IsMade g) ids
  made_ids = all_are_listed g (IsMade g) (made_decided g) (λ id made. made)

  abbrev every : List Id
  every = made_ids.0

  -- what is reached within so many rounds: a register holds it, or an object that was reached a round before
  abbrev InRounds : ℕ → Id → Type 0
  InRounds zero id = ⊥
  InRounds (suc n) id = IsMade g id × (IsRoot g id ⊎ Any (λ holder. InRounds n holder × Points g holder id) every)

  decided_in : (n : ℕ) (id : Id) → Decided (InRounds n id)
  decided_in zero id = inr (λ none. none)
  decided_in (suc n) id = both_decided (made_decided g id) (either_decided (root_decided g id)
      (any_decided (λ holder. InRounds n holder × Points g holder id) (λ holder. both_decided (decided_in n holder) (points_decided g holder id)) every))

  -- more rounds reach no less
  further : (n : ℕ) (id : Id) → InRounds n id → InRounds (suc n) id
  further zero id none = absurd none
  further (suc n) id its = (
    its.0,
    elim its.1 [
      | inl root ↦ inl root
      | inr any ↦ inr (any_of_contained (λ holder. InRounds (suc n) holder × Points g holder id) every any.1 (any.0, any.2, any.3) (further n any.1 any.4.0, any.4.1))
    ],
  )

  -- another round reaches nothing new
  abbrev IsClosed : ℕ → Type 0
  IsClosed n = (id : Id) → InRounds (suc n) id → InRounds n id

  closed_on : (n : ℕ) → IsClosed n → IsClosed (suc n)
  closed_on n closed id its = (
    its.0,
    elim its.1 [
      | inl root ↦ inl root
      | inr any ↦ inr (any_of_contained (λ holder. InRounds n holder × Points g holder id) every any.1 (any.0, any.2, any.3) (closed any.1 any.4.0, any.4.1))
    ],
  )

  -- each round reaches one more, until nothing new is reached
  closed_or_many : (n : ℕ) → IsClosed n ⊎ (n ≤ count_of (InRounds n) (decided_in n) every)
  closed_or_many zero = inr (omega arith)
  closed_or_many (suc n) = elim (closed_or_many n) [
    | inl closed ↦ inl (closed_on n closed)
    | inr many ↦ elim (list_grows (InRounds n) (InRounds (suc n)) (decided_in n) (decided_in (suc n)) (further n) every) [
      | inl more ↦ inr (omega (arith, many, more))
      | inr same ↦ inl (closed_on n (λ id its. same.1 id ((made_ids.1.all id).1 its.0) its))
    ]
  ]

  abbrev rounds : ℕ
  rounds = suc (length every)

  at_last : IsClosed rounds
  at_last = elim (closed_or_many rounds) [
    | inl closed ↦ closed
    | inr many ↦ absurd (omega (arith, many, count_within_length (InRounds rounds) (decided_in rounds) every))
  ]

  -- what is reached within some rounds is reached, and what is reached is so within these
  sound : (n : ℕ) (id : Id) → InRounds n id → Reaches g id
  sound zero id none = absurd none
  sound (suc n) id its = elim its.1 [
    | inl root ↦ from_register id its.0 root
    | inr any ↦ from_cell id its.0 any.1 (sound n any.1 any.4.0) any.4.1
  ]

  made_of : (id : Id) → Reaches g id → IsMade g id
  made_of _ (from_register id made root) = made
  made_of _ (from_cell id made holder reached points) = made

  whole : (id : Id) → Reaches g id → InRounds rounds id
  whole _ (from_register id made root) = (made, inl root)
  whole _ (from_cell id made holder reached points) =
      at_last id (made, inr (any_of_contained (λ h. InRounds rounds h × Points g h id) every holder ((made_ids.1.all holder).1 (made_of holder reached)) (whole holder reached, points)))

  pub reach_decided : (id : Id) → Decided (Reaches g id)
  reach_decided id = elim (decided_in rounds id) [
    | inl its ↦ inl (sound rounds id its)
    | inr none ↦ inr (λ reached. none (whole id reached))
  ]
