-- The fragments of a group whose bits are set among sixteen, each once.
use Rattle.std.specs.Int.{bit_at, w16}
use Rattle.std.proofs.Common.{◌≡◌, ◌≢◌, ℕ, ◌-◌, ◌/◌, ◌%◌, ◌^◌, ◌<◌, ◌≤◌, List, length, count_ones, ap, ◌∙◌, arith}
use Rattle.std.proofs.lemmas.Nat.Bits.{bit_at-lt, bit_at_not}
use Rattle.core_rule.proofs.Terms.{taken_at, tally, clear_in}
use Rattle.core_machine.proofs.table_lemmas.Counting.{clear_count_is_zero_count}
use Rattle.core_rule.proofs.words.ClearLemmas.{clear_tally_is_untaken_bit, no_other_is_clear, clear_is_in_group, clear_has_each_once}

-- the fragments of the group whose bits are set, the lowest first: those whose bits aren't set among the others
abbrev pub set_in : ℕ → ℕ → List ℕ
set_in group bits = clear_in group (2 ^ 16 - 1 - bits)

module _ (g bits : ℕ) where
  abbrev others : ℕ
  others = 2 ^ 16 - 1 - bits

  -- each is of the group, and stands there once
  pub set_is_in_group : (f : ℕ) → 1 ≤ tally f (set_in g bits) → f / 16 ≡ g
  set_is_in_group f there = clear_is_in_group g others f there

  pub set_has_each_once : (f : ℕ) → tally f (set_in g bits) ≤ 1
  set_has_each_once f = clear_has_each_once g others f

  pub no_other_is_set : (f : ℕ) → f / 16 ≢ g → tally f (set_in g bits) ≡ 0
  no_other_is_set f away = no_other_is_clear g others f away

  module _ (small : bits < 2 ^ 16) where
    -- a fragment of the group is among them where its bit is set
    pub set_tally_is_bit : (f : ℕ) → f / 16 ≡ g → tally f (set_in g bits) ≡ bit_at bits (taken_at f)
    set_tally_is_bit f here =
        let other : bit_at others (taken_at f) ≡ 1 - bit_at bits (taken_at f) = bit_at_not w16 bits (f % 16) small (omega arith) in
        omega (arith, clear_tally_is_untaken_bit g others f here, other, bit_at-lt bits (f % 16))

    -- they are as many as the bits
    pub set_length_is_bit_count : length (set_in g bits) ≡ count_ones bits
    set_length_is_bit_count =
        let same : 2 ^ 16 - 1 - others % 2 ^ 16 ≡ bits = omega (arith, small) in
        clear_count_is_zero_count g others ∙ ap count_ones same
