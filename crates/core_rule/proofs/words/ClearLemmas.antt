-- The clear fragments of a group, each once.
use Rattle.std.specs.Int.{bit_at}
use Rattle.std.specs.List.{range_with_len}
use Rattle.std.proofs.Common.{◌≡◌, ◌≢◌, ℕ, ◌+◌, ◌-◌, ◌*◌, ◌/◌, ◌%◌, ◌<◌, ◌≤◌, ◌⊎◌, inl, inr, Bool, true, false, List, length, filter, sym, ◌∙◌, arith}
use Rattle.std.proofs.lemmas.Bool.{cases_Bool}
use Rattle.std.proofs.lemmas.Bool.Decides.{eqb_tells, leb_tells}
use Rattle.std.proofs.lemmas.Nat.Bits.{bit_at-lt}
use Rattle.core_rule.proofs.Terms.{taken_at, tally, is_clear, clear_in, clear_among, sum_upto, free_in, Owner, taken_bit, free_bit}
use Rattle.core_machine.proofs.table_lemmas.Free.{sum_of_same_functions}
use Rattle.core_rule.proofs.owners.OwnerLemmas.{free_bit_is_untaken}
use Rattle.core_rule.proofs.lists.GroupLists.{tally-filter_yes, tally-filter_no, tally-range, tally-range_below, tally-range_above, group_tallies_are_length}

filter_none : (p : ℕ → Bool) (f : ℕ) (xs : List ℕ) → tally f xs ≡ 0 → tally f (filter p xs) ≡ 0
filter_none p f xs none = elim (cases_Bool (p f)) as (λ _. tally f (filter p xs) ≡ 0) [
  | inl is ↦ tally-filter_yes p f xs is ∙ none
  | inr isnt ↦ tally-filter_no p f xs isnt
]

outside : (g f : ℕ) → f / 16 ≢ g → (f < 16 * g) ⊎ (16 * g + 16 ≤ f)
outside g f away = elim (leb_tells (16 * g) f) as (λ _. (f < 16 * g) ⊎ (16 * g + 16 ≤ f)) [
  | inl from ↦ inr (elim (leb_tells (16 * g + 16) f) as (λ _. 16 * g + 16 ≤ f) [ inl above ↦ above.1 | inr within ↦ absurd (away (omega (arith, from.1, within.1))) ])
  | inr low ↦ inl low.1
]

module _ (g word f n : ℕ) where
  among_clear : 16 * g ≤ f → f < 16 * g + n → bit_at word (taken_at f) ≡ 0 → tally f (clear_among g word n) ≡ 1
  unfolding clear_among
  among_clear low high clear =
      let passes : is_clear word f ≡ true = elim (eqb_tells (bit_at word (taken_at f)) 0) as (λ _. is_clear word f ≡ true) [ inl is ↦ is.0 | inr isnt ↦ absurd (isnt.1 clear) ] in
      omega (arith, tally-filter_yes (is_clear word) f (range_with_len (16 * g) n) passes, tally-range f (16 * g) n low high)

  among_taken : bit_at word (taken_at f) ≢ 0 → tally f (clear_among g word n) ≡ 0
  unfolding clear_among
  among_taken taken =
      let fails : is_clear word f ≡ false = elim (eqb_tells (bit_at word (taken_at f)) 0) as (λ _. is_clear word f ≡ false) [ inl is ↦ absurd (taken is.1) | inr isnt ↦ isnt.0 ] in
      tally-filter_no (is_clear word) f (range_with_len (16 * g) n) fails

  among_away : (f < 16 * g) ⊎ (16 * g + n ≤ f) → tally f (clear_among g word n) ≡ 0
  unfolding clear_among
  among_away (inl low) = filter_none (is_clear word) f (range_with_len (16 * g) n) (tally-range_below f (16 * g) n low)
  among_away (inr high) = filter_none (is_clear word) f (range_with_len (16 * g) n) (tally-range_above f (16 * g) n high)

module _ (g word f : ℕ) where
  -- a fragment of the group is among them where its taken bit isn't set
  pub clear_tally_is_untaken_bit : f / 16 ≡ g → tally f (clear_in g word) ≡ 1 - bit_at word (taken_at f)
  clear_tally_is_untaken_bit here = elim (eqb_tells (bit_at word (taken_at f)) 0) as (λ _. tally f (clear_in g word) ≡ 1 - bit_at word (taken_at f)) [
    | inl clear ↦ omega (arith, among_clear g word f 16 (omega (arith, here)) (omega (arith, here)) clear.1, clear.1)
    | inr taken ↦ omega (arith, among_taken g word f 16 taken.1, taken.1, bit_at-lt word (f % 16))
  ]

  -- no other is
  pub no_other_is_clear : f / 16 ≢ g → tally f (clear_in g word) ≡ 0
  no_other_is_clear away = among_away g word f 16 (outside g f away)

  -- a clear fragment is of the group
  pub clear_is_in_group : 1 ≤ tally f (clear_in g word) → f / 16 ≡ g
  clear_is_in_group there = elim (eqb_tells (f / 16) g) as (λ _. f / 16 ≡ g) [
    | inl same ↦ same.1
    | inr apart ↦ absurd (omega (arith, no_other_is_clear apart.1, there))
  ]

  pub clear_has_each_once : tally f (clear_in g word) ≤ 1
  clear_has_each_once = elim (eqb_tells (f / 16) g) as (λ _. tally f (clear_in g word) ≤ 1) [
    | inl same ↦ omega (arith, clear_tally_is_untaken_bit same.1)
    | inr apart ↦ omega (arith, no_other_is_clear apart.1)
  ]

-- the group's clear fragments are as many as are free in it
pub clear_length_is_free_count : (g word : ℕ) (owner : ℕ → Owner) → ((j : ℕ) → j < 16 → bit_at word j ≡ taken_bit (owner (16 * g + j))) → length (clear_in g word) ≡ free_in owner g
clear_length_is_free_count g word owner bits =
    let counted : sum_upto 16 (λ j. tally (16 * g + j) (clear_in g word)) ≡ length (clear_in g word) = group_tallies_are_length g (clear_in g word) (λ f there. clear_is_in_group g word f there) in
    sym counted ∙ sum_of_same_functions 16 (λ j. tally (16 * g + j) (clear_in g word)) (λ j. free_bit (owner (16 * g + j))) (λ j below. each j below)
  where
    each : (j : ℕ) → j < 16 → tally (16 * g + j) (clear_in g word) ≡ free_bit (owner (16 * g + j))
    each j below =
        let position : (16 * g + j) % 16 ≡ j = omega arith in
        let bit : bit_at word ((16 * g + j) % 16) ≡ taken_bit (owner (16 * g + j)) = rw position (bits j below) in
        clear_tally_is_untaken_bit g word (16 * g + j) (omega arith) ∙ free_bit_is_untaken (owner (16 * g + j)) (bit_at word ((16 * g + j) % 16)) bit
