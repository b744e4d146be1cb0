-- The marked fragments of a group, by the bits of its control word, and the first of them from a position on.
use Rattle.std.proofs.Common.{zero, suc, ◌≡◌, ℕ, ◌+◌, ◌-◌, ◌^◌, ◌<◌, ◌≤◌, Bool, false, eqb, Option, Some, inl, inr, subst, arith}
use Rattle.std.specs.Int.{bit_at}
use Rattle.std.specs.List.{find, range_with_len}
use Rattle.std.proofs.lemmas.Bool.{eqb-false}
use Rattle.std.proofs.lemmas.Bool.Decides.{eqb_tells, leb_tells}
use Rattle.std.proofs.lemmas.Nat.Bits.{bit_at-lt, bit_at_above}
use Rattle.heap_words.specs.Control.{marked_bits_of, next_position_of}
use Rattle.heap_words.proofs.Grey.{bit_of_mask_is_words}
use Rattle.core_machine.proofs.table_lemmas.Bits.{true_or_false}

-- they are among sixteen
pub marked_few : (word : ℕ) → marked_bits_of word < 2 ^ 16
marked_few word = omega arith

-- each has its bit
pub marked_bit_is_words_bit : (word position : ℕ) → position < 16 → bit_at (marked_bits_of word) position ≡ bit_at word (32 + position)
marked_bit_is_words_bit word position within = bit_of_mask_is_words word 32 position within

-- a position whose bit is set is one of the sixteen
pub marked_position_within_group : (word position : ℕ) → bit_at (marked_bits_of word) position ≡ 1 → position < 16
marked_position_within_group word position one = elim (leb_tells (suc position) 16) as (λ _. position < 16) [
  | inl below ↦ omega (arith, below.1)
  | inr past ↦ absurd (omega (arith, one, bit_at_above (marked_bits_of word) 16 position (marked_few word) (omega (arith, past.1))))
]

-- none of the numbers before the one that is found passes
found_first : (p : ℕ → Bool) (a n x i : ℕ) → find p (range_with_len a n) ≡ Some x → a ≤ i → i < x → p i ≡ false
found_first p a zero x i is from before = absurd (cc is)
found_first p a (suc n) x i is from before = elim (true_or_false (p a)) as (λ _. p i ≡ false) [
  | inl yes_ ↦ absurd (let e : ◌≡◌ {A = Option ℕ} (Some a) (Some x) = rw yes_ at is in let same : a ≡ x = cc in omega (arith, same, from, before))
  | inr no_ ↦ elim (eqb_tells a i) as (λ _. p i ≡ false) [
    | inl here ↦ subst (λ k. p k ≡ false) here.1 no_
    | inr there ↦ found_first p (a + 1) n x i (rw no_ at is) (omega (arith, there.1, from)) before
  ]
]

-- no bit before the position that is found is set
pub none_marked_before_next : (bits from position i : ℕ) → next_position_of bits from ≡ Some position → from ≤ i → i < position → bit_at bits i ≡ 0
none_marked_before_next bits from position i is after before =
    let unset = eqb-false (bit_at bits i) 1 (found_first (λ j. eqb (bit_at bits j) 1) from (16 - from) position i is after before) in
    omega (arith, unset, bit_at-lt bits i)
