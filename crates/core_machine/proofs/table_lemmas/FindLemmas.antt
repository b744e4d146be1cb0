-- What is found among numbers in a row.
use Rattle.std.proofs.Common.{zero, suc, ◌≡◌, ℕ, ◌+◌, ◌<◌, ◌≤◌, Bool, true, false, List, [], ◌∷◌, Option, Some, None, subst, inl, inr, arith}
use Rattle.std.proofs.lemmas.Bool.Decides.{eqb_tells}
use Rattle.std.specs.Prelude.{IfSome}
use Rattle.std.specs.List.{find, range_with_len}
use Rattle.core_machine.proofs.table_lemmas.Bits.{true_or_false}

-- what is found is one of the numbers that were looked at
pub found_is_within : (p : ℕ → Bool) (a n : ℕ) → IfSome (find p (range_with_len a n)) (λ i. i < a + n)
found_is_within p a zero = tt
found_is_within p a (suc n) =
    elim (true_or_false (p a)) as (λ _. IfSome (find p (range_with_len a (suc n))) (λ i. i < a + suc n)) [
      | inl yes_ ↦ rw yes_ (omega arith)
      | inr no_ ↦ rw no_ (on (find p (range_with_len (a + 1) n)) (found_is_within p (a + 1) n))
    ]
  where
    on : (o : Option ℕ) → IfSome o (λ i. i < a + 1 + n) → IfSome o (λ i. i < a + suc n)
    on None within = tt
    on (Some i) within = omega (arith, within)

-- and none of those before the first one
pub found_is_not_before : (p : ℕ → Bool) (a n : ℕ) → IfSome (find p (range_with_len a n)) (λ i. a ≤ i)
found_is_not_before p a zero = tt
found_is_not_before p a (suc n) =
    elim (true_or_false (p a)) as (λ _. IfSome (find p (range_with_len a (suc n))) (λ i. a ≤ i)) [
      | inl yes_ ↦ rw yes_ (omega arith)
      | inr no_ ↦ rw no_ (on (find p (range_with_len (a + 1) n)) (found_is_not_before p (a + 1) n))
    ]
  where
    on : (o : Option ℕ) → IfSome o (λ i. a + 1 ≤ i) → IfSome o (λ i. a ≤ i)
    on None behind = tt
    on (Some i) behind = omega (arith, behind)

-- what is found passes
pub found_number_passes : (p : ℕ → Bool) (xs : List ℕ) (x : ℕ) → find p xs ≡ Some x → p x ≡ true
found_number_passes p [] x is = cc
found_number_passes p (y ∷ ys) x is = elim (true_or_false (p y)) as (λ _. p x ≡ true) [
  | inl yes_ ↦ let same : y ≡ x = let e : ◌≡◌ {A = Option ℕ} (Some y) (Some x) = rw yes_ at is in cc in subst (λ i. p i ≡ true) same yes_
  | inr no_ ↦ found_number_passes p ys x (rw no_ at is)
]

-- where nothing is found nothing passes
pub none_found_none_passes : (p : ℕ → Bool) (a n i : ℕ) → find p (range_with_len a n) ≡ None → a ≤ i → i < a + n → p i ≡ false
none_found_none_passes p a zero i none from below = absurd (omega arith)
none_found_none_passes p a (suc n) i none from below = elim (true_or_false (p a)) as (λ _. p i ≡ false) [
  | inl yes_ ↦ let e = rw yes_ at none in cc
  | inr no_ ↦ elim (eqb_tells a i) as (λ _. p i ≡ false) [
    | inl here ↦ subst (λ k. p k ≡ false) here.1 no_
    | inr there ↦ none_found_none_passes p (a + 1) n i (rw no_ at none) (omega (arith, there.1)) (omega arith)
  ]
]
