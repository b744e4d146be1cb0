-- A control word's bits once fragments were freed, and once the marks were cleared.
use Rattle.std.specs.Int.{bit_at, w64}
use Rattle.std.proofs.Common.{◌≡◌, ℕ, ◌+◌, ◌-◌, ◌*◌, ◌^◌, ◌<◌, ◌≤◌, min, bit_and, refl, arith}
use Rattle.std.proofs.lemmas.Nat.Bits.{bit_at_and, bit_at_not, bit_at_ones, bit_at_ones_above, bit_at-lt, bit_at_above, bit_at_cat_low, bit_at_cat_high}
use Rattle.core_machine.specs.table.Operation.{free_mask_of, marks_cleared}

module _ (word bits : ℕ) (small : bits < 2 ^ 16) where
  abbrev twice : ℕ
  twice = bits * 2 ^ 16 + bits

  -- a bit stays where it is none of those that are cleared
  freed_bit : (i : ℕ) → i < 64 → bit_at (bit_and word (free_mask_of bits)) i ≡ bit_at word i - bit_at twice i
  freed_bit i within =
      let both : bit_at (bit_and word (free_mask_of bits)) i ≡ min (bit_at word i) (bit_at (free_mask_of bits) i) = bit_at_and word (free_mask_of bits) i in
      let other : bit_at (free_mask_of bits) i ≡ 1 - bit_at twice i = bit_at_not w64 twice i (omega (arith, small)) within in
      omega (arith, both, other, bit_at-lt word i, bit_at-lt twice i)

  -- the taken and the born bits of the fragments are cleared
  pub freeing_clears_taken_bits : (j : ℕ) → j < 16 → bit_at (bit_and word (free_mask_of bits)) j ≡ bit_at word j - bit_at bits j
  freeing_clears_taken_bits j below = omega (arith, freed_bit j (omega (arith, below)), bit_at_cat_low bits 16 bits j below)

  pub freeing_clears_born_bits : (j : ℕ) → j < 16 → bit_at (bit_and word (free_mask_of bits)) (16 + j) ≡ bit_at word (16 + j) - bit_at bits j
  freeing_clears_born_bits j below =
      let back : 16 + j - 16 ≡ j = omega arith in
      let high : bit_at twice (16 + j) ≡ bit_at bits j = rw (bit_at_cat_high bits 16 bits (16 + j) small (omega arith), back) refl in
      omega (arith, freed_bit (16 + j) (omega (arith, below)), high)

  -- the marked and the scanned ones stay
  pub freeing_keeps_higher_bits : (j : ℕ) → 32 ≤ j → j < 64 → bit_at (bit_and word (free_mask_of bits)) j ≡ bit_at word j
  freeing_keeps_higher_bits j past within =
      let high : bit_at twice j ≡ bit_at bits (j - 16) = bit_at_cat_high bits 16 bits j small (omega (arith, past)) in
      omega (arith, freed_bit j within, high, bit_at_above bits 16 (j - 16) small (omega (arith, past)))

module _ (word j : ℕ) where
  -- a clear leaves the taken and the born bits
  pub clearing_keeps_lower_bits : j < 32 → bit_at (bit_and word marks_cleared) j ≡ bit_at word j
  clearing_keeps_lower_bits below =
      let both : bit_at (bit_and word marks_cleared) j ≡ min (bit_at word j) (bit_at marks_cleared j) = bit_at_and word marks_cleared j in
      let one : bit_at marks_cleared j ≡ 1 = bit_at_ones 32 j below in
      omega (arith, both, one, bit_at-lt word j)

  -- and no other one
  pub clearing_clears_higher_bits : 32 ≤ j → bit_at (bit_and word marks_cleared) j ≡ 0
  clearing_clears_higher_bits past =
      let both : bit_at (bit_and word marks_cleared) j ≡ min (bit_at word j) (bit_at marks_cleared j) = bit_at_and word marks_cleared j in
      let none : bit_at marks_cleared j ≡ 0 = bit_at_ones_above 32 j past in
      omega (arith, both, none)
