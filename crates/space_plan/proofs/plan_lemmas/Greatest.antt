-- The greatest number of which something holds, where it comes to hold of one number more.
use Rattle.std.proofs.Common.{◌≡◌, ℕ, ◌+◌, ◌<◌, ◌⊎◌, inl, inr, max, List, [], ◌∷◌, ◌++◌, Contains, refl, length, get_or, map, take, sym, ◌∙◌, ap, subst, arith}
use Rattle.std.proofs.lemmas.Bool.{cases_lt}
use Rattle.std.proofs.lemmas.List.{map_more}
use Rattle.std.proofs.lemmas.List.Elements.{Contains-append_left, Contains-push, Contains-push_cases}
use Rattle.heap_model.specs.declared.entry.Entry.{Entry}
use Rattle.heap_model.specs.declared.heap.Heap.{Heap}
use Rattle.space_plan.specs.plan.Cycles.{cycle_takes}
use Rattle.space_plan.specs.plan.Moments.{Moment}
use Rattle.space_plan.specs.plan.Takes.{IsTakenAt, IsTakenAtAny, taken_since_end}
use Rattle.space_plan.specs.plan.Totals.{IsGreatest, IsNeeded, need_told}

-- it holds of the same numbers
pub IsGreatest-same : (P Q : ℕ → Type 0) (n : ℕ) → ((k : ℕ) → P k → Q k) → ((k : ℕ) → Q k → P k) → IsGreatest P n → IsGreatest Q n
IsGreatest-same P Q n to from greatest = record { holds = to n greatest.holds; most = λ other holds. greatest.most other (from other holds) }

-- it holds of one number more
pub IsGreatest-more : (P Q : ℕ → Type 0) (n m : ℕ) → ((k : ℕ) → P k → Q k) → ((k : ℕ) → Q k → P k ⊎ (k ≡ m)) → Q m → IsGreatest P n → IsGreatest Q (max n m)
IsGreatest-more P Q n m to from here greatest = record {
  holds = elim (cases_lt n m) [
    | inl above ↦ subst Q (omega arith) here
    | inr below ↦ subst Q (omega arith) (to n greatest.holds)
  ];
  most = λ other holds. elim (from other holds) [
    | inl old ↦ omega (arith, greatest.most other old)
    | inr new ↦ omega (arith, new)
  ];
}

-- a list has one number more
greatest-push : (ns : List ℕ) (n m : ℕ) → IsGreatest (λ k. (k ≡ 0) ⊎ Contains ns k) n → IsGreatest (λ k. (k ≡ 0) ⊎ Contains (ns ++ m ∷ []) k) (max n m)
greatest-push ns n m greatest = IsGreatest-more (λ k. (k ≡ 0) ⊎ Contains ns k) (λ k. (k ≡ 0) ⊎ Contains (ns ++ m ∷ []) k) n m to from (inr (Contains-push ns m)) greatest
  where
    to : (k : ℕ) → (k ≡ 0) ⊎ Contains ns k → (k ≡ 0) ⊎ Contains (ns ++ m ∷ []) k
    to k (inl none) = inl none
    to k (inr held) = inr (Contains-append_left ns (m ∷ []) k held)

    from : (k : ℕ) → (k ≡ 0) ⊎ Contains (ns ++ m ∷ []) k → ((k ≡ 0) ⊎ Contains ns k) ⊎ (k ≡ m)
    from k (inl none) = inl (inl none)
    from k (inr held) = elim (Contains-push_cases ns m k held) [ inl old ↦ inl (inr old) | inr new ↦ inr (sym new) ]

-- one more entry is gone over for its need
pub IsNeeded-more : (entries : List Entry) (i : ℕ) (d : Entry) (n m : ℕ) → i < length entries → m ≡ need_told (get_or entries i d)
    → IsGreatest (IsNeeded (take i entries)) n → IsGreatest (IsNeeded (take (i + 1) entries)) (max n m)
IsNeeded-more entries i d n m within is greatest =
    subst (λ ns. IsGreatest (λ k. (k ≡ 0) ⊎ Contains ns k) (max n m)) (ap (λ x. map need_told (take i entries) ++ x ∷ []) is ∙ sym (map_more need_told entries i d within))
    (greatest-push (map need_told (take i entries)) n m greatest)

-- what was taken at one more end
pub IsTakenAtAny-more : (heap : Heap) (ends : List Moment) (at : Moment) (n since section : ℕ) → since ≡ cycle_takes heap at.before → section ≡ taken_since_end at.before
    → IsGreatest (IsTakenAtAny heap ends) n → IsGreatest (IsTakenAtAny heap (ends ++ at ∷ [])) (max (max n since) section)
IsTakenAtAny-more heap ends at n since section cycles sections greatest =
    IsGreatest-more (λ k. IsTakenAtAny heap ends k ⊎ (k ≡ since)) (IsTakenAtAny heap (ends ++ at ∷ [])) (max n since) section to from (inr (at, Contains-push ends at, inl sections))
    (IsGreatest-more (IsTakenAtAny heap ends) (λ k. IsTakenAtAny heap ends k ⊎ (k ≡ since)) n since (λ k old. inl old) (λ k some. some) (inr refl) greatest)
  where
    to : (k : ℕ) → IsTakenAtAny heap ends k ⊎ (k ≡ since) → IsTakenAtAny heap (ends ++ at ∷ []) k
    to k (inl (inl none)) = inl none
    to k (inl (inr there)) = inr (there.0, Contains-append_left ends (at ∷ []) there.0 there.1, there.2)
    to k (inr here) = inr (at, Contains-push ends at, inr (here ∙ cycles))

    here : (k : ℕ) → IsTakenAt heap at k → (IsTakenAtAny heap ends k ⊎ (k ≡ since)) ⊎ (k ≡ section)
    here k (inl is) = inr (is ∙ sym sections)
    here k (inr is) = inl (inr (is ∙ sym cycles))

    from : (k : ℕ) → IsTakenAtAny heap (ends ++ at ∷ []) k → (IsTakenAtAny heap ends k ⊎ (k ≡ since)) ⊎ (k ≡ section)
    from k (inl none) = inl (inl (inl none))
    from k (inr there) = elim (Contains-push_cases ends at there.0 there.1) [
      | inl old ↦ inl (inl (inr (there.0, old, there.2)))
      | inr new ↦ here k (subst (λ (m : Moment). IsTakenAt heap m k) (sym new) there.2)
    ]
