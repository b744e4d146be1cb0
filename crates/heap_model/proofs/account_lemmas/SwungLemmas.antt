-- The members of a set of ids.
use Rattle.std.proofs.Common.{◌≡◌, refl, sym, ap, ◌∙◌, subst, true, ◌↔◌, ◌⊎◌, inl, inr, Contains, IsTrue}
use Rattle.std.proofs.lemmas.Bool.{cases_Bool, cond-true, cond-false, both_ways}
use Rattle.std.proofs.lemmas.Cmp.{eq_by_cmp_equiv}
use Rattle.std.proofs.lemmas.Map.Lookups.{CmpEqualImpliesEq, exact_unsigned, exact_pairs}
use Rattle.std.proofs.lemmas.Map.Views.{btree_set_contains_iff, tells_apart}
use Rattle.std.specs.BTreeSet.{BTreeSet, Updates, contains}
use Rattle.std.specs.Ordering.{eq_by_cmp}
use Rattle.heap_model.specs.contracts.id.IdOrd.TheImpl as order
use Rattle.heap_model.specs.contracts.id.IdOrd.TheImpl.Laws as laws
use Rattle.heap_model.specs.declared.id.Id.{Id}
use Rattle.heap_model.specs.declared.id.Id.TheVariants.{Board, Made}

-- ids that their order does not tell apart are the same
exact_ids : CmpEqualImpliesEq order.cmp-value.it
exact_ids Board Board equal = refl
exact_ids Board (Made number n) equal = cc equal
exact_ids (Made number n) Board equal = cc equal
exact_ids (Made number n) (Made t m) equal = ap (λ x. Made x.0 x.1) ((exact_pairs _ _ exact_unsigned exact_unsigned) (number, n) (t, m) equal)

-- the set has what is among its members
pub contains_is_membership : (s : BTreeSet Id) (id : Id) → IsTrue (contains order.cmp-value.it s id) ↔ Contains s.keys id
contains_is_membership = btree_set_contains_iff laws.total-law exact_ids

-- one more key of a set is one more member
pub members_with_added_key : (s n : BTreeSet Id) (id : Id) → Updates order.cmp-value.it s n id true → (other : Id) → Contains n.keys other ↔ Contains s.keys other ⊎ (other ≡ id)
members_with_added_key s n id added other =
    elim (cases_Bool (eq_by_cmp order.cmp-value.it id other)) [
      | inl same ↦ (λ h. inr (sym (tells_apart exact_ids id other same)), λ h. (contains_is_membership n other).0 (added.0 other ∙ cond-true _ _ _ same))
      | inr apart ↦ (let stays = added.0 other ∙ cond-false _ _ _ apart in (
        λ h. inl ((contains_is_membership s other).0 (sym stays ∙ (contains_is_membership n other).1 h)),
        λ h. elim h [
          | inl past ↦ (contains_is_membership n other).0 (stays ∙ (contains_is_membership s other).1 past)
          | inr is ↦ absurd (both_ways _ apart (subst (λ x. eq_by_cmp order.cmp-value.it id x ≡ true) (sym is) ((eq_by_cmp_equiv laws.total-law).refl id)))
        ],
      ))
    ]
