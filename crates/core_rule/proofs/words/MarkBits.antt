-- The marked and the scanned bits of a control word after a claim, a give back and a birth.
use Rattle.std.specs.Int.{bit_at, w64}
use Rattle.std.proofs.Common.{◌≡◌, ℕ, ◌+◌, ◌-◌, ◌*◌, ◌^◌, ◌<◌, ◌≤◌, max, Bool, true, false, cond, bit_or, refl, arith}
use Rattle.std.proofs.lemmas.Nat.Bits.{bit_at_or, bit_at_and, bit_at_not, bit_at_ones_above, bit_at-lt, bit_at_above, bit_at_cat_low, bit_at_cat_high}
use Rattle.core_rule.proofs.Terms.{all_taken, word_without_taken, birth_bits_of}

module _ (word : ℕ) where
  -- a claim changes no bit past the taken ones
  pub claim_keeps_higher_bits : (j : ℕ) → 16 ≤ j → bit_at (bit_or word all_taken) j ≡ bit_at word j
  claim_keeps_higher_bits j past = rw (bit_at_or word all_taken j, bit_at_ones_above 16 j past) (omega arith)

  module _ (bits : ℕ) (small : bits < 2 ^ 16) where
    -- nor does a give back
    pub giving_keeps_higher_bits : (j : ℕ) → 16 ≤ j → j < 64 → bit_at (word_without_taken bits word) j ≡ bit_at word j
    giving_keeps_higher_bits j past within =
        let wide : bits < 2 ^ 64 = omega (arith, small) in
        rw (bit_at_and word (2 ^ 64 - 1 - bits) j, bit_at_not w64 bits j wide within, bit_at_above bits 16 j small past) (omega (arith, bit_at-lt word j))

    module _ (j : ℕ) (below : j < 16) where
      shifted : (n i : ℕ) → bit_at (n * 2 ^ 16) (16 + i) ≡ bit_at n i
      shifted n i =
          let e : n * 2 ^ 16 ≡ n * 2 ^ 16 + 0 = omega arith in
          let back : 16 + i - 16 ≡ i = omega arith in
          rw (e, bit_at_cat_high n 16 0 (16 + i) (omega arith) (omega arith), back) refl

      high : (n i : ℕ) → bit_at (n * 2 ^ 16 + bits) (16 + i) ≡ bit_at n i
      high n i = let back : 16 + i - 16 ≡ i = omega arith in rw (bit_at_cat_high n 16 bits (16 + i) small (omega arith), back) refl

      low : (n : ℕ) → bit_at (n * 2 ^ 16 + bits) j ≡ bit_at bits j
      low n = bit_at_cat_low n 16 bits j below

      none_past : (i : ℕ) → 16 ≤ i → bit_at bits i ≡ 0
      none_past i past = bit_at_above bits 16 i small past

      -- the bits of a black birth, quarter by quarter
      third : (black : Bool) → bit_at (birth_bits_of black bits) (32 + j) ≡ cond {A = ℕ} black (bit_at bits j) 0
      third false =
          let at_position : 32 + j ≡ 16 + (16 + j) = omega arith in
          rw (at_position, shifted bits (16 + j)) (none_past (16 + j) (omega arith))
      third true =
          let at_position : 32 + j ≡ 16 + (16 + j) = omega arith in
          let e : birth_bits_of true bits ≡ ((bits * 2 ^ 16 + bits) * 2 ^ 16 + bits) * 2 ^ 16 = omega arith in
          rw (at_position, e, shifted ((bits * 2 ^ 16 + bits) * 2 ^ 16 + bits) (16 + j), high (bits * 2 ^ 16 + bits) j) (low bits)

      fourth : (black : Bool) → bit_at (birth_bits_of black bits) (48 + j) ≡ cond {A = ℕ} black (bit_at bits j) 0
      fourth false =
          let at_position : 48 + j ≡ 16 + (32 + j) = omega arith in
          rw (at_position, shifted bits (32 + j)) (none_past (32 + j) (omega arith))
      fourth true =
          let at_position : 48 + j ≡ 16 + (16 + (16 + j)) = omega arith in
          let e : birth_bits_of true bits ≡ ((bits * 2 ^ 16 + bits) * 2 ^ 16 + bits) * 2 ^ 16 = omega arith in
          rw (at_position, e, shifted ((bits * 2 ^ 16 + bits) * 2 ^ 16 + bits) (16 + (16 + j)), high (bits * 2 ^ 16 + bits) (16 + j), high bits j) refl

      -- a black birth sets the marked and the scanned bits of the mask, a white one none
      pub birth_sets_marked_bits : (black : Bool) → bit_at (bit_or word (birth_bits_of black bits)) (32 + j) ≡ max (bit_at word (32 + j)) (cond {A = ℕ} black (bit_at bits j) 0)
      birth_sets_marked_bits black = rw (bit_at_or word (birth_bits_of black bits) (32 + j), third black) refl

      pub birth_sets_scanned_bits : (black : Bool) → bit_at (bit_or word (birth_bits_of black bits)) (48 + j) ≡ max (bit_at word (48 + j)) (cond {A = ℕ} black (bit_at bits j) 0)
      birth_sets_scanned_bits black = rw (bit_at_or word (birth_bits_of black bits) (48 + j), fourth black) refl
