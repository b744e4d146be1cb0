-- The dead fragments of a group, and the positions of their bits.
use Rattle.std.proofs.Common.{◌≡◌, ℕ, ◌+◌, ◌-◌, ◌/◌, ◌%◌, ◌^◌, ◌<◌, ◌≤◌, ◌↔◌, eqb, min, Option, Some, None, refl, subst, inl, inr, w16, arith}
use Rattle.std.specs.Int.{bit_at}
use Rattle.std.specs.Prelude.{IfSome}
use Rattle.std.specs.List.{range_with_len}
use Rattle.std.proofs.lemmas.Bool.{eqb-true, eqb-false}
use Rattle.std.proofs.lemmas.Bool.Decides.{leb_tells}
use Rattle.std.proofs.lemmas.Nat.{and_le_l}
use Rattle.std.proofs.lemmas.Nat.Bits.{bit_at_and, bit_at_not, bit_at-lt}
use Rattle.heap_words.specs.Control.{dead_bits_of, next_position_of}
use Rattle.heap_words.proofs.Grey.{bit_of_mask_is_words}
use Rattle.core_machine.proofs.table_lemmas.FindLemmas.{found_is_within, found_is_not_before, found_number_passes, none_found_none_passes}

-- they are among sixteen
pub dead_bits_within_group : (word : ℕ) → dead_bits_of word < 2 ^ 16
dead_bits_within_group word = omega (arith, and_le_l (word / 2 ^ 16 % 2 ^ 16) (2 ^ 16 - 1 - word / 2 ^ 32 % 2 ^ 16))

dead_bit : (word j : ℕ) → j < 16 → bit_at (dead_bits_of word) j ≡ min (bit_at word (16 + j)) (1 - bit_at word (32 + j))
dead_bit word j within =
    let and_ = bit_at_and (word / 2 ^ 16 % 2 ^ 16) (2 ^ 16 - 1 - word / 2 ^ 32 % 2 ^ 16) j in
    let not_ = bit_at_not w16 (word / 2 ^ 32 % 2 ^ 16) j (omega arith) within in
    omega (arith, bit_of_mask_is_words word 16 j within, bit_of_mask_is_words word 32 j within)

-- a fragment is dead exactly where it is born and not marked
pub dead_is_born_unmarked : (word j : ℕ) → j < 16 → (bit_at (dead_bits_of word) j ≡ 1) ↔ ((bit_at word (16 + j) ≡ 1) × (bit_at word (32 + j) ≡ 0))
dead_is_born_unmarked word j within =
    let bit = dead_bit word j within in
    let born = bit_at-lt word (16 + j) in
    let marked = bit_at-lt word (32 + j) in
    (λ dead. (omega arith, omega arith), λ is. omega (arith, is.0, is.1))

-- the position that is found is one of the sixteen
next_position_within : (bits from : ℕ) → IfSome (next_position_of bits from) (λ i. i < 16)
next_position_within bits from =
    elim (leb_tells from 16) as (λ _. IfSome (next_position_of bits from) (λ i. i < 16)) [
      | inl few ↦
          let all : from + (16 - from) ≡ 16 = omega (arith, few.1) in
          subst (λ n. IfSome (next_position_of bits from) (λ i. i < n)) all (found_is_within (λ position. eqb (bit_at bits position) 1) from (16 - from))
      | inr past ↦ let none : 16 - from ≡ 0 = omega (arith, past.1) in rw none tt
    ]

-- the position that is found has a set bit
pub found_position_has_bit : (bits from position : ℕ) → next_position_of bits from ≡ Some position → (position < 16) × (bit_at bits position ≡ 1)
found_position_has_bit bits from position is =
    (rw is at (next_position_within bits from), eqb-true (bit_at bits position) 1 (found_number_passes (λ i. eqb (bit_at bits i) 1) (range_with_len from (16 - from)) position is))

-- where none is found no bit from there on is set
pub no_position_no_bit : (bits from i : ℕ) → next_position_of bits from ≡ None → from ≤ i → i < 16 → bit_at bits i ≡ 0
no_position_no_bit bits from i none after within =
    let unset = eqb-false (bit_at bits i) 1 (none_found_none_passes (λ position. eqb (bit_at bits position) 1) from (16 - from) i none after (omega arith)) in
    omega (arith, unset, bit_at-lt bits i)

pub next_position_has_bit : (bits from : ℕ) → IfSome (next_position_of bits from) (λ i. (i < 16) × (bit_at bits i ≡ 1))
next_position_has_bit bits from = on (next_position_of bits from) refl
  where
    on : (o : Option ℕ) → next_position_of bits from ≡ o → IfSome o (λ i. (i < 16) × (bit_at bits i ≡ 1))
    on None is = tt
    on (Some i) is = found_position_has_bit bits from i is

-- and no position before the one from which it was looked for
pub next_position_not_before : (bits from : ℕ) → IfSome (next_position_of bits from) (λ i. from ≤ i)
next_position_not_before bits from = found_is_not_before (λ position. eqb (bit_at bits position) 1) from (16 - from)
