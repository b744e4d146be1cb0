-- While marks are cleared, each group that is counted goes from what is still to be cleared to what was counted.
use Rattle.std.specs.Int.{bit_at}
use Rattle.std.proofs.Common.{◌≡◌, ◌≢◌, ℕ, ◌+◌, ◌*◌, ◌/◌, ◌%◌, ◌^◌, ◌<◌, ◌≤◌, Bool, true, List, refl, sym, ap, ◌∙◌, arith}
use Rattle.std.proofs.lemmas.Bool.Decides.{nat_tests}
use Rattle.std.proofs.lemmas.Nat.Bits.{bit_at_cat_low}
use Rattle.heap_words.specs.Control.{taken_count_of}
use Rattle.core_rule.proofs.Terms.{Heap, Id, Control, tally, at, sum_upto, id_at, Bits, Owner, Free, Taken, Borne, Kept, Dead, taken_bit}
use Rattle.core_machine.proofs.table_lemmas.Free.{sum_of_same_functions, sum_of_nothing_is_zero, sum_but_one_number}
use Rattle.core_rule.specs.footprint.Footprint.{is_among, inside_bit, kept_bit, in_groups_before, in_groups_from, ClearedWithin}
use Rattle.core_rule.proofs.counts.FreeSums.{control_bit_is_taken_bit}
use Rattle.core_rule.proofs.kept.WeightGrowth.{test_counts_once}
use Rattle.core_rule.proofs.lists.GroupLists.{group_tallies_are_length}
use Rattle.core_rule.proofs.lists.SumLemmas.{sum_le, sum_blocks}
use Rattle.core_rule.proofs.words.SetBits.{set_in, set_is_in_group, set_tally_is_bit, set_length_is_bit_count}

module _ (bit : ℕ → ℕ) (group i j : ℕ) (small : j < 16) where
  abbrev f : ℕ
  f = 16 * i + j

  its_group : f / 16 ≡ i
  its_group = omega (arith, small)

  from_here : i ≡ group → in_groups_from group bit f ≡ bit f
  from_here here = grind (arith, nat_tests, its_group, here)

  from_next : i ≡ group → in_groups_from (group + 1) bit f ≡ 0
  from_next here = grind (arith, nat_tests, its_group, here)

  from_else : i ≢ group → in_groups_from group bit f ≡ in_groups_from (group + 1) bit f
  from_else other = grind (arith, nat_tests, its_group, other)

  before_here : i ≡ group → in_groups_before group bit f ≡ 0
  before_here here = grind (arith, nat_tests, its_group, here)

  before_next : i ≡ group → in_groups_before (group + 1) bit f ≡ bit f
  before_next here = grind (arith, nat_tests, its_group, here)

  before_else : i ≢ group → in_groups_before group bit f ≡ in_groups_before (group + 1) bit f
  before_else other = grind (arith, nat_tests, its_group, other)

-- two numbers of each fragment that are the same but in one group
module _ (n group : ℕ) (below : group < n) (first second : ℕ → ℕ) (same : (i j : ℕ) → j < 16 → i ≢ group → first (16 * i + j) ≡ second (16 * i + j)) where
  but_one_group : sum_upto (16 * n) first + sum_upto 16 (λ j. second (16 * group + j)) ≡ sum_upto (16 * n) second + sum_upto 16 (λ j. first (16 * group + j))
  but_one_group =
      let change = sum_but_one_number n (λ i. sum_upto 16 (λ j. first (16 * i + j))) (λ i. sum_upto 16 (λ j. second (16 * i + j))) group below
      (λ i less other. sum_of_same_functions 16 (λ j. first (16 * i + j)) (λ j. second (16 * i + j)) (λ j small. same i j small other)) in
      omega (arith, change, sum_blocks 16 n first, sum_blocks 16 n second)

module _ (n group : ℕ) (below : group < n) (bit : ℕ → ℕ) where
  -- what is counted from a group on is counted from the next on, and in the group
  pub from_summands : sum_upto (16 * n) (in_groups_from group bit) ≡ sum_upto (16 * n) (in_groups_from (group + 1) bit) + sum_upto 16 (λ j. bit (16 * group + j))
  from_summands =
      let change = but_one_group n group below (in_groups_from group bit) (in_groups_from (group + 1) bit) (λ i j small other. from_else bit group i j small other) in
      let none = sum_of_nothing_is_zero 16 (λ j. in_groups_from (group + 1) bit (16 * group + j)) (λ j small. from_next bit group group j small refl) in
      let all = sum_of_same_functions 16 (λ j. in_groups_from group bit (16 * group + j)) (λ j. bit (16 * group + j)) (λ j small. from_here bit group group j small refl) in
      omega (arith, change, none, all)

  -- what is counted before the next group is counted before the group, and in it
  pub before_summands : sum_upto (16 * n) (in_groups_before (group + 1) bit) ≡ sum_upto (16 * n) (in_groups_before group bit) + sum_upto 16 (λ j. bit (16 * group + j))
  before_summands =
      let change = but_one_group n group below (in_groups_before group bit) (in_groups_before (group + 1) bit) (λ i j small other. before_else bit group i j small other) in
      let none = sum_of_nothing_is_zero 16 (λ j. in_groups_before group bit (16 * group + j)) (λ j small. before_here bit group group j small refl) in
      let all = sum_of_same_functions 16 (λ j. in_groups_before (group + 1) bit (16 * group + j)) (λ j. bit (16 * group + j)) (λ j small. before_next bit group group j small refl) in
      omega (arith, change, none, all)

low_bit : (word j : ℕ) → j < 16 → bit_at (word % 2 ^ 16) j ≡ bit_at word j
low_bit word j small =
    let whole : word / 2 ^ 16 * 2 ^ 16 + word % 2 ^ 16 ≡ word = omega arith in
    sym (bit_at_cat_low (word / 2 ^ 16) 16 (word % 2 ^ 16) j small) ∙ ap (λ n. bit_at n j) whole

-- a kept fragment is taken
kept_taken : (inside : Id → Bool) (made : List Id) (o : Owner) → kept_bit inside made o ≤ taken_bit o
kept_taken inside made Free = omega arith
kept_taken inside made (Taken number) = omega arith
kept_taken inside made (Borne number) = omega arith
kept_taken inside made (Kept i k) = test_counts_once (inside (id_at made i))
kept_taken inside made (Dead i k) = omega arith

module _ (heap : Heap) (words : List ℕ) (owner : ℕ → Owner) (bits : Bits heap words owner) (group : ℕ) (below : group < heap.groups) where
  -- the taken bits of a group's word are as many as its fragments that are taken
  pub taken_counted : taken_count_of (at heap words (Control group)) ≡ sum_upto 16 (λ j. taken_bit (owner (16 * group + j)))
  taken_counted =
      let word : ℕ = at heap words (Control group) in
      let low : word % 2 ^ 16 < 2 ^ 16 = omega arith in
      sym (set_length_is_bit_count group (word % 2 ^ 16) low) ∙ sym (group_tallies_are_length group (set_in group (word % 2 ^ 16)) (λ f there. set_is_in_group group (word % 2 ^ 16) f there))
      ∙ sum_of_same_functions 16 (λ j. tally (16 * group + j) (set_in group (word % 2 ^ 16))) (λ j. taken_bit (owner (16 * group + j))) (λ j small.
      let position : (16 * group + j) % 16 ≡ j = omega (arith, small) in
      set_tally_is_bit group (word % 2 ^ 16) low (16 * group + j) (omega (arith, small)) ∙ ap (λ p. bit_at (word % 2 ^ 16) p) position ∙ low_bit word j small
      ∙ control_bit_is_taken_bit heap words owner bits group j below small)

  -- the count goes on to be right when the collector has counted a group
  pub cleared_within_next_group : (made begun : List Id) (most kept : ℕ) → ClearedWithin heap made begun owner most group kept
      → ClearedWithin heap made begun owner most (group + 1) (kept + taken_count_of (at heap words (Control group)))
  cleared_within_next_group made begun most kept cleared = record {
    at_most = omega (arith, cleared.at_most, taken_counted, from_summands heap.groups group below (λ f. taken_bit (owner f)));
    at_least =
        let few = sum_le 16 (λ j. kept_bit (is_among begun) made (owner (16 * group + j))) (λ j. taken_bit (owner (16 * group + j)))
        (λ j small. kept_taken (is_among begun) made (owner (16 * group + j))) in
        omega (arith, cleared.at_least, taken_counted, few, before_summands heap.groups group below (λ f. kept_bit (is_among begun) made (owner f)));
  }

module _ (heap : Heap) (made : List Id) (owner : ℕ → Owner) (inside : Id → Bool) (kept_inside : (f i k : ℕ) → owner f ≡ Kept i k → inside (id_at made i) ≡ true)
    (none_dead : (f i k : ℕ) → owner f ≢ Dead i k) where
  taken_inside : (o : Owner) → ((i k : ℕ) → o ≡ Kept i k → inside (id_at made i) ≡ true) → ((i k : ℕ) → o ≢ Dead i k) → taken_bit o ≡ inside_bit inside made o
  taken_inside Free its dead = refl
  taken_inside (Taken number) its dead = refl
  taken_inside (Borne number) its dead = refl
  taken_inside (Kept i k) its dead = rw (its i k refl) refl
  taken_inside (Dead i k) its dead = absurd (dead i k refl)

  -- where all that is kept is inside, and nothing is to be freed, what is taken is inside
  pub all_taken_is_inside : sum_upto (16 * heap.groups) (λ f. taken_bit (owner f)) ≡ sum_upto (16 * heap.groups) (λ f. inside_bit inside made (owner f))
  all_taken_is_inside = sum_of_same_functions (16 * heap.groups) (λ f. taken_bit (owner f)) (λ f. inside_bit inside made (owner f)) (λ f less. taken_inside (owner f) (kept_inside f) (none_dead f))

  -- so the count is right when the clearing begins
  pub cleared_within_at_begin : (begun : List Id) (most : ℕ) → sum_upto (16 * heap.groups) (λ f. inside_bit inside made (owner f)) ≤ most → ClearedWithin heap made begun owner most 0 0
  cleared_within_at_begin begun most within = record {
    at_most =
        let whole = sum_of_same_functions (16 * heap.groups) (in_groups_from 0 (λ f. taken_bit (owner f))) (λ f. taken_bit (owner f)) (λ f less. grind (arith, nat_tests)) in
        omega (arith, whole, all_taken_is_inside, within);
    at_least =
        let none = sum_of_nothing_is_zero (16 * heap.groups) (in_groups_before 0 (λ f. kept_bit (is_among begun) made (owner f))) (λ f less. grind (arith, nat_tests)) in
        omega (arith, none);
  }
