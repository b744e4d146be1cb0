-- The first set bit of sixteen from a position on.
use Rattle.std.proofs.Common.{◌≡◌, ℕ, ◌+◌, ◌-◌, ◌/◌, ◌%◌, ◌^◌, ◌<◌, ◌≤◌, eqb, Some, None, sym, ap, subst, ◌∙◌, inl, inr, w16, arith}
use Rattle.std.specs.Int.{bit_at, trailing_zeros}
use Rattle.std.proofs.lemmas.Bool.Decides.{leb_tells}
use Rattle.std.proofs.lemmas.Nat.{shr-shr, shr_le, shr_below}
use Rattle.std.proofs.lemmas.Nat.Bits.{bit_at-zero, bit_at_above, bit_at-trailing_zeros}
use Rattle.heap_words.specs.Control.{next_position_of}
use Rattle.heap_words.proofs.Finding.{found_is_first_passing, none_passing_none_found}

-- a set bit of a number of k bits is one of the k
bit_within : (n k i : ℕ) → n < 2 ^ k → bit_at n i ≡ 1 → i < k
bit_within n k i few set_ = elim (leb_tells k i) as (λ _. i < k) [
  | inl above ↦ absurd (omega (arith, set_, bit_at_above n k i few above.1))
  | inr below ↦ omega (arith, below.1)
]

module _ (bits from : ℕ) (few : bits < 2 ^ 16) (within : from < 16) where
  rest_bit : (i : ℕ) → from ≤ i → bit_at bits i ≡ bit_at (bits / 2 ^ from) (i - from)
  rest_bit i after =
      let whole : from + (i - from) ≡ i = omega arith in
      ap (λ k. bit_at bits k) (sym whole) ∙ sym (ap (λ x. x % 2) (shr-shr bits from (i - from)))

  rest_few : bits / 2 ^ from < 2 ^ (16 - from)
  rest_few =
      let all : 16 - from + from ≡ 16 = omega arith in
      shr_below bits (16 - from) from (subst (λ k. bits < 2 ^ k) (sym all) few)

  -- where no bit is left there is no position
  pub no_bit_no_next_position : bits / 2 ^ from ≡ 0 → next_position_of bits from ≡ None
  no_bit_no_next_position none = none_passing_none_found (λ position. eqb (bit_at bits position) 1) from (16 - from)
      (λ i after _. ap (λ b. eqb b 1) (rest_bit i after ∙ ap (λ n. bit_at n (i - from)) none ∙ bit_at-zero (i - from)))

  -- else the lowest bit that is left is the position's
  pub lowest_bit_is_next_position : (bits / 2 ^ from ≡ 0 → ⊥) → next_position_of bits from ≡ Some (from + trailing_zeros w16 (bits / 2 ^ from))
  lowest_bit_is_next_position some =
      let lowest = bit_at-trailing_zeros w16 (bits / 2 ^ from) (omega (arith, some)) (omega (arith, shr_le bits from)) in
      let low = bit_within (bits / 2 ^ from) (16 - from) (trailing_zeros w16 (bits / 2 ^ from)) rest_few lowest.1 in
      let same : from + trailing_zeros w16 (bits / 2 ^ from) - from ≡ trailing_zeros w16 (bits / 2 ^ from) = omega arith in
      found_is_first_passing (λ position. eqb (bit_at bits position) 1) from (16 - from) (from + trailing_zeros w16 (bits / 2 ^ from)) (omega arith) (omega (arith, low))
      (ap (λ b. eqb b 1) (rest_bit _ (omega arith) ∙ ap (bit_at (bits / 2 ^ from)) same ∙ lowest.1))
      (λ i after below. ap (λ b. eqb b 1) (rest_bit i after ∙ lowest.2 (i - from) (omega arith)))
