-- Which ids are inside: those reached when the cycle began, and those of objects that were made since.
use Rattle.std.proofs.Common.{◌≡◌, ◌⊎◌, inl, inr, true, not, is_some, List, Contains, refl, sym, ◌∙◌, subst, Any}
use Rattle.std.proofs.lemmas.Bool.{cases_Bool, cond-true, cond-false, both_ways, not-true, not_from_false, false_from_ne_true}
use Rattle.std.proofs.lemmas.List.Folds.{Any-from_list_any, list_any-from_Any}
use Rattle.core_rule.proofs.Terms.{Id, Graph, node, IsMade, is_same_id}
use Rattle.core_rule.specs.footprint.Footprint.{is_among, is_inside}
use Rattle.core_rule.proofs.graph.Numbering.{same_id_test_decides}

-- the test of two ids
pub same_by_test : (a b : Id) → is_same_id a b ≡ true → a ≡ b
same_by_test a b test = elim (same_id_test_decides a b) [ inl e ↦ e.1 | inr e ↦ absurd (both_ways (is_same_id a b) e.0 test) ]

pub test_of_same : (a b : Id) → a ≡ b → is_same_id a b ≡ true
test_of_same a b same = elim (same_id_test_decides a b) [ inl e ↦ e.0 | inr e ↦ absurd (e.1 same) ]

-- the test finds what stands in the list
pub contains_by_test : (ids : List Id) (id : Id) → is_among ids id ≡ true → Contains ids id
contains_by_test ids id among =
    let any : Any (λ x. is_same_id id x ≡ true) ids = Any-from_list_any (is_same_id id) ids among in
    subst (Contains ids) (sym (same_by_test id any.1 any.4)) (any.0, any.2, any.3)

pub contained_is_among : (ids : List Id) (id : Id) → Contains ids id → is_among ids id ≡ true
contained_is_among ids id there = list_any-from_Any (is_same_id id) ids (there.0, id, there.1, there.2, test_of_same id id refl)

module _ (earlier : Graph) (begun : List Id) (id : Id) where
  -- an id that was reached then is inside
  pub begun_is_inside : Contains begun id → is_inside earlier begun id ≡ true
  begun_is_inside there = cond-true (is_among begun id) true (not (is_some (node earlier id))) (contained_is_among begun id there)

  -- and one of an object that wasn't made then
  pub later_made_is_inside : ¬ IsMade earlier id → is_inside earlier begun id ≡ true
  later_made_is_inside unmade = elim (cases_Bool (is_among begun id)) [
    | inl among ↦ cond-true (is_among begun id) true (not (is_some (node earlier id))) among
    | inr other ↦ cond-false (is_among begun id) true (not (is_some (node earlier id))) other ∙ not_from_false (is_some (node earlier id)) (false_from_ne_true (is_some (node earlier id)) unmade)
  ]

  -- no others are
  pub inside_means : is_inside earlier begun id ≡ true → Contains begun id ⊎ ¬ IsMade earlier id
  inside_means inside = elim (cases_Bool (is_among begun id)) [
    | inl among ↦ inl (contains_by_test begun id among)
    | inr other ↦ inr (both_ways (is_some (node earlier id))
        (not-true (is_some (node earlier id)) (sym (cond-false (is_among begun id) true (not (is_some (node earlier id))) other) ∙ inside)))
  ]

  -- so what was made and is inside was reached
  pub inside_made_is_begun : is_inside earlier begun id ≡ true → IsMade earlier id → Contains begun id
  inside_made_is_begun inside made = elim (inside_means inside) [ inl there ↦ there | inr unmade ↦ absurd (unmade made) ]
