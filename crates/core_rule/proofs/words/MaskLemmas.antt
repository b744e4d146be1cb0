-- The bits of the mask of fragments of one group.
use Rattle.std.specs.Int.{bit_at}
use Rattle.std.proofs.Common.{◌≡◌, ◌≢◌, ℕ, ◌+◌, ◌*◌, ◌/◌, ◌%◌, ◌^◌, ◌<◌, ◌≤◌, inl, inr, min, max, List, [], ◌∷◌, fold, bit_or, refl, arith}
use Rattle.std.proofs.lemmas.Bool.Decides.{eqb_tells}
use Rattle.std.proofs.lemmas.Nat.Bits.{bit_at_or, bit_at-pow_same, bit_at-pow_other, bit_at-zero, bit_at-lt}
use Rattle.core_rule.proofs.Terms.{inside_group, mask_of, tally, one_at}
use Rattle.core_rule.proofs.lists.Tallies.{one_at_same_is_one, one_at_other_is_none}

-- the bits with one more
abbrev with_bit : ℕ → ℕ → ℕ
with_bit bits fragment = bit_or bits (2 ^ (fragment % 16))

-- bit j of a fragment of the group is set where it is that fragment
bit_of : (g x j : ℕ) → x / 16 ≡ g → j < 16 → bit_at (2 ^ (x % 16)) j ≡ one_at x (16 * g + j)
bit_of g x j here below = elim (eqb_tells x (16 * g + j)) as (λ _. bit_at (2 ^ (x % 16)) j ≡ one_at x (16 * g + j)) [
  | inl same ↦
      let position : x % 16 ≡ j = omega (arith, same.1) in
      rw (position, bit_at-pow_same j, one_at_same_is_one x (16 * g + j) same.1) refl
  | inr apart ↦
      let position : j ≢ x % 16 = λ e. apart.1 (omega (arith, e)) in
      rw (bit_at-pow_other (x % 16) j position, one_at_other_is_none x (16 * g + j) apart.1) refl
]

-- a bit is set where it was set or its fragment is of the list
bits_grow : (g j : ℕ) (fs : List ℕ) (bits : ℕ) → j < 16
    → bit_at (fold with_bit bits (inside_group g fs)) j ≡ max (bit_at bits j) (min 1 (tally (16 * g + j) fs))
bits_grow g j [] bits below = omega (arith, bit_at-lt bits j)
bits_grow g j (x ∷ xs) bits below = elim (eqb_tells (x / 16) g) as (λ _. bit_at (fold with_bit bits (inside_group g (x ∷ xs))) j ≡ max (bit_at bits j) (min 1 (tally (16 * g + j) (x ∷ xs)))) [
  | inl here ↦
      let more = bits_grow g j xs (with_bit bits x) below in
      let this : bit_at (with_bit bits x) j ≡ max (bit_at bits j) (one_at x (16 * g + j)) = rw (bit_at_or bits (2 ^ (x % 16)) j, bit_of g x j here.1 below) refl in
      rw (here.0) (omega (arith, more, this))
  | inr apart ↦
      let none : one_at x (16 * g + j) ≡ 0 = one_at_other_is_none x (16 * g + j) (λ e. apart.1 (omega (arith, e))) in
      rw (apart.0) (omega (arith, none, bits_grow g j xs bits below))
]

-- bit j of the mask is whether fragment j of the group is of the list
pub mask_bit_is_tally : (g j : ℕ) (fs : List ℕ) → j < 16 → tally (16 * g + j) fs ≤ 1 → bit_at (mask_of (inside_group g fs)) j ≡ tally (16 * g + j) fs
unfolding mask_of
mask_bit_is_tally g j fs below once = omega (arith, bits_grow g j fs 0 below, bit_at-zero j)
