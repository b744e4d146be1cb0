-- A control word's bits after a claim, a give back and a birth.
use Rattle.std.specs.Int.{bit_at, w64}
use Rattle.std.proofs.Common.{◌≡◌, ℕ, ◌+◌, ◌-◌, ◌*◌, ◌^◌, ◌<◌, max, Bool, true, false, bit_or, refl, arith}
use Rattle.std.proofs.lemmas.Nat.Bits.{bit_at_or, bit_at_and, bit_at_not, bit_at_ones, bit_at_ones_above, bit_at-zero, bit_at-lt, bit_at_above, bit_at_cat_low, bit_at_cat_high}
use Rattle.core_rule.proofs.Terms.{all_taken, word_without_taken, birth_bits_of}

module _ (word j : ℕ) (below : j < 16) where
  -- a claim sets each taken bit, and no born one
  pub claim_sets_taken_bits : bit_at (bit_or word all_taken) j ≡ 1
  claim_sets_taken_bits = rw (bit_at_or word all_taken j, bit_at_ones 16 j below) (omega (arith, bit_at-lt word j))

  pub claim_keeps_born_bits : bit_at (bit_or word all_taken) (16 + j) ≡ bit_at word (16 + j)
  claim_keeps_born_bits = rw (bit_at_or word all_taken (16 + j), bit_at_ones_above 16 (16 + j) (omega arith)) (omega arith)

  module _ (bits : ℕ) where
    -- a give back clears the taken bits of the mask alone
    pub giving_clears_taken_bits : bits < 2 ^ 16 → bit_at (word_without_taken bits word) j ≡ bit_at word j - bit_at bits j
    giving_clears_taken_bits small =
        let wide : bits < 2 ^ 64 = omega (arith, small) in
        rw (bit_at_and word (2 ^ 64 - 1 - bits) j, bit_at_not w64 bits j wide (omega arith)) (omega (arith, bit_at-lt word j, bit_at-lt bits j))

    pub giving_keeps_born_bits : bits < 2 ^ 16 → bit_at (word_without_taken bits word) (16 + j) ≡ bit_at word (16 + j)
    giving_keeps_born_bits small =
        let wide : bits < 2 ^ 64 = omega (arith, small) in
        rw (bit_at_and word (2 ^ 64 - 1 - bits) (16 + j), bit_at_not w64 bits (16 + j) wide (omega arith), bit_at_above bits 16 (16 + j) small (omega arith)) (omega (arith, bit_at-lt word (16 + j)))

    shifted_low : (n : ℕ) → bit_at (n * 2 ^ 16) j ≡ 0
    shifted_low n =
        let e : n * 2 ^ 16 ≡ n * 2 ^ 16 + 0 = omega arith in
        rw (e, bit_at_cat_low n 16 0 j below, bit_at-zero j) refl

    shifted_high : (n : ℕ) → bit_at (n * 2 ^ 16) (16 + j) ≡ bit_at n j
    shifted_high n =
        let e : n * 2 ^ 16 ≡ n * 2 ^ 16 + 0 = omega arith in
        let back : 16 + j - 16 ≡ j = omega arith in
        rw (e, bit_at_cat_high n 16 0 (16 + j) (omega arith) (omega arith), back) refl

    birth_low : (black : Bool) → bit_at (birth_bits_of black bits) j ≡ 0
    birth_low false = shifted_low bits
    birth_low true =
        let e : birth_bits_of true bits ≡ (bits + bits * 2 ^ 16 + bits * 2 ^ 32) * 2 ^ 16 = omega arith in
        rw e (shifted_low (bits + bits * 2 ^ 16 + bits * 2 ^ 32))

    birth_high : (black : Bool) → bit_at (birth_bits_of black bits) (16 + j) ≡ bit_at bits j
    birth_high false = shifted_high bits
    birth_high true =
        let e : birth_bits_of true bits ≡ (bits + bits * 2 ^ 16 + bits * 2 ^ 32) * 2 ^ 16 = omega arith in
        let cat : bits + bits * 2 ^ 16 + bits * 2 ^ 32 ≡ (bits + bits * 2 ^ 16) * 2 ^ 16 + bits = omega arith in
        rw (e, shifted_high (bits + bits * 2 ^ 16 + bits * 2 ^ 32), cat, bit_at_cat_low (bits + bits * 2 ^ 16) 16 bits j below) refl

    -- a birth sets the born bits of the mask, and no taken one
    pub birth_keeps_taken_bits : (black : Bool) → bit_at (bit_or word (birth_bits_of black bits)) j ≡ bit_at word j
    birth_keeps_taken_bits black = rw (bit_at_or word (birth_bits_of black bits) j, birth_low black) (omega arith)

    pub birth_sets_born_bits : (black : Bool) → bit_at (bit_or word (birth_bits_of black bits)) (16 + j) ≡ max (bit_at word (16 + j)) (bit_at bits j)
    birth_sets_born_bits black = rw (bit_at_or word (birth_bits_of black bits) (16 + j), birth_high black) refl
