-- The lowest grey fragment of a group.
use Rattle.std.proofs.Common.{zero, suc, ◌≡◌, ℕ, ◌+◌, ◌-◌, ◌*◌, ◌/◌, ◌%◌, ◌^◌, ◌<◌, false, cond, eqb, min, Some, None, refl, sym, ap, ◌∙◌, bit_and, w16, arith}
use Rattle.std.specs.Int.{bit_at, trailing_zeros}
use Rattle.std.proofs.lemmas.Nat.{shr-shr, and_le_l}
use Rattle.std.proofs.lemmas.Nat.Bits.{bit_at_and, bit_at_not, bit_at-lt, bit_at-zero, bit_at_cat_low, bit_at-trailing_zeros}
use Rattle.heap_words.specs.Control.{is_grey, lowest_grey_of}
use Rattle.heap_words.proofs.Finding.{found_is_first_passing, none_passing_none_found}

-- a bit of a word's mask
pub bit_of_mask_is_words : (word from i : ℕ) → i < 16 → bit_at (word / 2 ^ from % 2 ^ 16) i ≡ bit_at word (from + i)
bit_of_mask_is_words word from i within =
    let whole : word / 2 ^ from ≡ word / 2 ^ from / 2 ^ 16 * 2 ^ 16 + word / 2 ^ from % 2 ^ 16 = omega arith in
    sym (bit_at_cat_low (word / 2 ^ from / 2 ^ 16) 16 (word / 2 ^ from % 2 ^ 16) i within)
    ∙ ap (λ x. bit_at x i) (sym whole) ∙ ap (λ x. x % 2) (shr-shr word from i)

-- a bit of what is marked and not scanned
both : (m s : ℕ) → m < 2 → s < 2 → cond (eqb m 1) (eqb s 0) false ≡ eqb (min m (1 - s)) 1
both zero s small low = let none : min 0 (1 - s) ≡ 0 = omega arith in rw none refl
both (suc zero) zero small low = refl
both (suc zero) (suc zero) small low = refl
both (suc zero) (suc (suc s)) small low = absurd (omega arith)
both (suc (suc m)) s small low = absurd (omega arith)

-- what is marked and not scanned
abbrev pub grey_of : ℕ → ℕ
grey_of word = bit_and (word / 2 ^ 32 % 2 ^ 16) (2 ^ 16 - 1 - word / 2 ^ 48)

module _ (word : ℕ) (wide : word < 2 ^ 64) where
  scanned_bit : (i : ℕ) → i < 16 → bit_at (word / 2 ^ 48) i ≡ bit_at word (48 + i)
  scanned_bit i within = let same : word / 2 ^ 48 % 2 ^ 16 ≡ word / 2 ^ 48 = omega arith in ap (λ x. bit_at x i) (sym same) ∙ bit_of_mask_is_words word 48 i within

  grey_bit : (i : ℕ) → i < 16 → bit_at (grey_of word) i ≡ min (bit_at word (32 + i)) (1 - bit_at word (48 + i))
  grey_bit i within =
      let and_ = bit_at_and (word / 2 ^ 32 % 2 ^ 16) (2 ^ 16 - 1 - word / 2 ^ 48) i in
      let not_ = bit_at_not w16 (word / 2 ^ 48) i (omega arith) within in
      omega (arith, bit_of_mask_is_words word 32 i within, scanned_bit i within)

  grey_tells : (i : ℕ) → i < 16 → is_grey word i ≡ eqb (bit_at (grey_of word) i) 1
  grey_tells i within =
      let position : i % 16 ≡ i = omega arith in
      let bit = grey_bit i within in
      rw (position, bit) (both (bit_at word (32 + i)) (bit_at word (48 + i)) (bit_at-lt word (32 + i)) (bit_at-lt word (48 + i)))

  -- where no bit is left none is grey
  pub no_bit_no_grey : grey_of word ≡ 0 → lowest_grey_of word ≡ None
  no_bit_no_grey none = none_passing_none_found (is_grey word) 0 16 (λ i _ within. grey_tells i within ∙ ap (λ n. eqb (bit_at n i) 1) none ∙ ap (λ b. eqb b 1) (bit_at-zero i))

  -- else the lowest bit that is left is that of the lowest grey fragment
  pub lowest_bit_is_lowest_grey : (grey_of word ≡ 0 → ⊥) → lowest_grey_of word ≡ Some (trailing_zeros w16 (grey_of word))
  lowest_bit_is_lowest_grey some =
      let few = and_le_l (word / 2 ^ 32 % 2 ^ 16) (2 ^ 16 - 1 - word / 2 ^ 48) in
      let lowest = bit_at-trailing_zeros w16 (grey_of word) (omega (arith, some)) (omega arith) in
      found_is_first_passing (is_grey word) 0 16 (trailing_zeros w16 (grey_of word)) (omega arith) lowest.0
      (grey_tells _ lowest.0 ∙ ap (λ b. eqb b 1) lowest.1)
      (λ i _ below. grey_tells i (omega (arith, lowest.0)) ∙ ap (λ b. eqb b 1) (lowest.2 i below))
