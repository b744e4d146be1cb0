-- The first of some numbers in a row that passes a test.
use Rattle.std.proofs.Common.{zero, suc, ◌≡◌, ℕ, ◌+◌, ◌<◌, ◌≤◌, Bool, true, false, Some, None, refl, sym, ap, subst, inl, inr, arith}
use Rattle.std.specs.List.{find, range_with_len}
use Rattle.std.proofs.lemmas.Bool.Decides.{eqb_tells}

-- the first number from a on that passes
pub found_is_first_passing : (p : ℕ → Bool) (a n t : ℕ) → a ≤ t → t < a + n → p t ≡ true → ((i : ℕ) → a ≤ i → i < t → p i ≡ false) → find p (range_with_len a n) ≡ Some t
found_is_first_passing p a zero t from below passes none = absurd (omega arith)
found_is_first_passing p a (suc n) t from below passes none =
    elim (eqb_tells a t) as (λ _. find p (range_with_len a (suc n)) ≡ Some t) [
      | inl here ↦ let yes_ : p a ≡ true = subst (λ i. p i ≡ true) (sym here.1) passes in rw yes_ (ap (λ i. Some i) here.1)
      | inr there ↦
          let no_ : p a ≡ false = none a (omega arith) (omega (arith, there.1)) in
          rw no_ (found_is_first_passing p (a + 1) n t (omega (arith, there.1)) (omega arith) passes (λ i l. none i (omega arith)))
    ]

-- none of the numbers passes
pub none_passing_none_found : (p : ℕ → Bool) (a n : ℕ) → ((i : ℕ) → a ≤ i → i < a + n → p i ≡ false) → find p (range_with_len a n) ≡ None
none_passing_none_found p a zero none = refl
none_passing_none_found p a (suc n) none = let no_ : p a ≡ false = none a (omega arith) (omega arith) in rw no_ (none_passing_none_found p (a + 1) n (λ i l u. none i (omega arith) (omega arith)))
