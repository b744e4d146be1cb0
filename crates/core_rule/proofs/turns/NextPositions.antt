-- Which position of a group's bits comes next.
use Rattle.std.specs.Prelude.{IfSome}
use Rattle.std.specs.Int.{bit_at}
use Rattle.std.specs.List.{find, range_with_len}
use Rattle.std.proofs.Common.{zero, suc, ◌≡◌, ℕ, ◌+◌, ◌-◌, ◌==◌, ◌<◌, ◌≤◌, Bool, Option, Some, None, inl, inr, arith}
use Rattle.heap_words.specs.Control.{next_position_of}
use Rattle.core_machine.proofs.table_lemmas.Bits.{true_or_false}
use Rattle.core_machine.proofs.table_lemmas.DeadBits.{next_position_has_bit}

-- what is found among numbers in a row is none before them
found_after : (p : ℕ → Bool) (a n : ℕ) → IfSome (find p (range_with_len a n)) (λ i. a ≤ i)
found_after p a zero = tt
found_after p a (suc n) = elim (true_or_false (p a)) as (λ _. IfSome (find p (range_with_len a (suc n))) (λ i. a ≤ i)) [
  | inl yes_ ↦ rw yes_ (omega arith)
  | inr no_ ↦ rw no_ (on (find p (range_with_len (a + 1) n)) (found_after p (a + 1) n))
]
  where
    on : (o : Option ℕ) → IfSome o (λ i. a + 1 ≤ i) → IfSome o (λ i. a ≤ i)
    on None after = tt
    on (Some i) after = omega (arith, after)

-- so the next position isn't either, and is one of the sixteen
pub next_position_is_not_before : (bits from : ℕ) → IfSome (next_position_of bits from) (λ i. from ≤ i)
next_position_is_not_before bits from = found_after (λ position. bit_at bits position == 1) from (16 - from)

pub next_position_within_group : (bits from : ℕ) → IfSome (next_position_of bits from) (λ i. i < 16)
next_position_within_group bits from = on (next_position_of bits from) (next_position_has_bit bits from)
  where
    on : (o : Option ℕ) → IfSome o (λ i. (i < 16) × (bit_at bits i ≡ 1)) → IfSome o (λ i. i < 16)
    on None is = tt
    on (Some i) is = is.0
