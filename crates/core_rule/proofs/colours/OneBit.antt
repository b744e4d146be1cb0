-- One bit of a fragment's control word is set, above the taken and the born ones.
use Rattle.std.specs.Int.{bit_at}
use Rattle.std.specs.Prelude.{bit_or}
use Rattle.std.proofs.Common.{◌≡◌, ◌≢◌, ℕ, ◌+◌, ◌*◌, ◌/◌, ◌%◌, ◌^◌, ◌<◌, ◌≤◌, List, length, refl, ◌∙◌, arith}
use Rattle.std.proofs.lemmas.Nat.Bits.{bit_at_or, bit_at-pow_same, bit_at-pow_other, bit_at-lt}
use Rattle.core_rule.proofs.Terms.{born_at, Heap, Control, at, put, table_length, Bits, Owner}
use Rattle.core_rule.proofs.words.ControlLemmas.{bits_after_control_word, word_has_taken_bit, word_has_born_bit}

module _ (word base f : ℕ) where
  abbrev with_bit : ℕ
  with_bit = bit_or word (2 ^ (base + f % 16))

  -- the others stay
  pub other_bit_stays : (i : ℕ) → i ≢ base + f % 16 → bit_at with_bit i ≡ bit_at word i
  other_bit_stays i apart = rw (bit_at_or word (2 ^ (base + f % 16)) i, bit_at-pow_other (base + f % 16) i apart) (omega arith)

  -- it is set
  pub bit_is_set : bit_at with_bit (base + f % 16) ≡ 1
  bit_is_set = rw (bit_at_or word (2 ^ (base + f % 16)) (base + f % 16), bit_at-pow_same (base + f % 16)) (omega (arith, bit_at-lt word (base + f % 16)))

  -- that of another fragment, or of another kind, isn't touched
  pub bit_beside_stays : (x : ℕ) → x % 16 ≢ f % 16 → bit_at with_bit (base + x % 16) ≡ bit_at word (base + x % 16)
  bit_beside_stays x apart = other_bit_stays (base + x % 16) (λ e. apart (omega (arith, e)))

-- those below stay
pub lower_bit_stays : (word base f i : ℕ) → i < base → bit_at (bit_or word (2 ^ (base + f % 16))) i ≡ bit_at word i
lower_bit_stays word base f i below = other_bit_stays word base f i (λ e. omega (arith, e, below))

-- the born bits stay
pub bit_born : (word base f x : ℕ) → 32 ≤ base → bit_at (bit_or word (2 ^ (base + f % 16))) (born_at x) ≡ bit_at word (born_at x)
bit_born word base f x above = other_bit_stays word base f (born_at x) (λ e. omega (arith, e, above))

-- so the control words have the same owners
pub bits_after_mark : (heap : Heap) (words : List ℕ) (owner : ℕ → Owner) (base f : ℕ) → length words ≡ table_length heap → f < 16 * heap.groups → 32 ≤ base → Bits heap words owner
    → Bits heap (put heap words (Control (f / 16)) (bit_or (at heap words (Control (f / 16))) (2 ^ (base + f % 16)))) owner
bits_after_mark heap words owner base f whole within above bits = bits_after_control_word heap words owner owner (f / 16) (bit_or (at heap words (Control (f / 16))) (2 ^ (base + f % 16))) whole (omega (arith, within)) bits
    (λ x here. other_bit_stays (at heap words (Control (f / 16))) base f (x % 16) (λ e. omega (arith, e, above)) ∙ word_has_taken_bit heap words owner (f / 16) whole (omega (arith, within)) bits x here)
    (λ x here. bit_born (at heap words (Control (f / 16))) base f x above ∙ word_has_born_bit heap words owner (f / 16) whole (omega (arith, within)) bits x here)
    (λ x apart. refl) (λ x apart. refl) bits.outside
