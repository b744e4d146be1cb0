-- The spine words that the sweep has counted in its group: those of arrays that are to be freed and begin there.
use Rattle.std.specs.Prelude.{if◌then◌else◌}
use Rattle.std.specs.Int.{bit_at}
use Rattle.std.proofs.Common.{◌≡◌, ◌≢◌, ℕ, ◌+◌, ◌-◌, ◌*◌, ◌/◌, ◌^◌, ◌==◌, ◌<◌, ◌≤◌, Option, Some, None, inl, inr, refl, sym, ap, ◌∙◌, subst, arith}
use Rattle.std.proofs.lemmas.Bool.Decides.{eqb_tells}
use Rattle.heap_words.specs.Control.{next_position_of}
use Rattle.core_rule.proofs.Terms.{Heap, sum_upto, SweepCounts, dead_weight, dead_sum, Owner, Free, Dead, dead_bit, owner_after, AreDead}
use Rattle.core_machine.specs.collector.Sweeping.{after_swept, after_examined}
use Rattle.core_machine.specs.declared.collector.stage.Stage.TheVariants as stages
use Rattle.core_machine.proofs.table_lemmas.DeadBits.{found_position_has_bit, no_position_no_bit}
use Rattle.core_machine.proofs.table_lemmas.Free.{sum_of_same_functions, sum_of_nothing_is_zero, sum_but_one_number}
use Rattle.core_rule.proofs.lists.SumLemmas.{sum_in_two_summands, sum_blocks}
use Rattle.core_rule.proofs.marking.SweepMarks.{after_swept_either}
use Rattle.core_rule.proofs.owners.DeadOwners.{dead_has_its_bit}
use Rattle.core_rule.proofs.owners.Handed.{unhanded_keeps_owner, handed_cases}
use Rattle.core_rule.proofs.turns.NextPositions.{next_position_is_not_before}
use Rattle.core_rule.proofs.words.MarkedPositions.{none_marked_before_next}
use Rattle.core_rule.proofs.words.SetBits.{set_in, set_tally_is_bit, no_other_is_set}

-- what isn't to be freed weighs nothing
pub undead_weight : (words : ℕ → ℕ) (o : Owner) → dead_bit o ≡ 0 → dead_weight words o ≡ 0
undead_weight words (Dead i k) none = absurd (omega (arith, none))
undead_weight words _ none = refl

module _ (heap : Heap) (words : ℕ → ℕ) (owner : ℕ → Owner) (group dead : ℕ) (are : AreDead owner group dead) where
  -- the words of the array that begins at a position of the group
  abbrev pub at_position : ℕ → ℕ
  at_position j = dead_weight words (owner (16 * group + j))

  -- where no bit is set nothing is to be freed
  unset_none : (j : ℕ) → j < 16 → bit_at dead j ≡ 0 → at_position j ≡ 0
  unset_none j below unset = undead_weight words (owner (16 * group + j)) (sym (are j below) ∙ unset)

  -- so the words before a position are those before an earlier one with no bit between
  sum_on : (from position : ℕ) → from ≤ position → position ≤ 16 → ((i : ℕ) → from ≤ i → i < position → bit_at dead i ≡ 0) → sum_upto position at_position ≡ sum_upto from at_position
  sum_on from position before within unset =
      let whole : from + (position - from) ≡ position = omega (arith, before) in
      let none = sum_of_nothing_is_zero (position - from) (λ i. at_position (from + i)) (λ i below. unset_none (from + i) (omega (arith, below, within)) (unset (from + i) (omega arith) (omega (arith, below)))) in
      let summands = sum_in_two_summands from (position - from) at_position in
      subst (λ n. sum_upto n at_position ≡ sum_upto from at_position) whole (omega (arith, summands, none))

  freed_counts : (counted from : ℕ) → counted ≡ sum_upto from at_position → from ≤ 16 → next_position_of dead from ≡ None
      → SweepCounts words owner (if dead == 0 then after_swept heap group else stages.Freeing group dead counted)
  freed_counts counted from is few none = elim (eqb_tells dead 0) as (λ _. SweepCounts words owner (if dead == 0 then after_swept heap group else stages.Freeing group dead counted)) [
    | inl nothing ↦ rw nothing.0 (after_swept_either (SweepCounts words owner) heap group tt (λ last. tt))
    | inr some ↦ rw some.0 (is ∙ sym (sum_on from 16 few (omega arith) (λ i after below. no_position_no_bit dead from i none after below)))
  ]

  -- where so many were counted before a position, so many are before the next one whose bit is set, or in all
  pub sweep_counts_after_examined : (counted from : ℕ) → counted ≡ sum_upto from at_position → from ≤ 16 → (next : Option ℕ) → next_position_of dead from ≡ next
      → SweepCounts words owner (after_examined heap group dead counted next)
  sweep_counts_after_examined counted from is few None none = freed_counts counted from is few none
  sweep_counts_after_examined counted from is few (Some position) found =
      let after : from ≤ position = rw found at (next_position_is_not_before dead from) in
      let within = (found_position_has_bit dead from position found).0 in
      is ∙ sym (sum_on from position after (omega (arith, within)) (λ i upon below. none_marked_before_next dead from position i found upon below))

module _ (heap : Heap) (words : ℕ → ℕ) (owner : ℕ → Owner) (group dead : ℕ) (below : group < heap.groups) (small : dead < 2 ^ 16) (are : AreDead owner group dead) where
  abbrev freed : ℕ → Owner
  freed = owner_after Free owner (set_in group dead)

  -- once the group's fragments are freed nothing begins there
  none_left : (j : ℕ) → j < 16 → dead_weight words (freed (16 * group + j)) ≡ 0
  none_left j less = handed_cases (λ o. dead_weight words o ≡ 0) Free owner (set_in group dead) (16 * group + j) (λ there. refl) (λ away.
      let here : (16 * group + j) / 16 ≡ group = omega (arith, less) in
      undead_weight words (owner (16 * group + j)) (omega (arith, away, set_tally_is_bit group dead small (16 * group + j) here, dead_has_its_bit owner group dead small are (16 * group + j) here)))

  -- and in each other group what began there
  others_stay : (g j : ℕ) → g ≢ group → j < 16 → freed (16 * g + j) ≡ owner (16 * g + j)
  others_stay g j apart less = unhanded_keeps_owner Free owner (set_in group dead) (16 * g + j) (no_other_is_set group dead (16 * g + j) (λ here. apart (omega (arith, here, less))))

  -- so the words of what is to be freed are fewer by those of the group
  pub dead_sum_falls_by_group : dead_sum heap words freed + sum_upto 16 (at_position heap words owner group dead are) ≡ dead_sum heap words owner
  dead_sum_falls_by_group =
      let block : (ℕ → Owner) → ℕ → ℕ = λ o g. sum_upto 16 (λ j. dead_weight words (o (16 * g + j))) in
      let change = sum_but_one_number heap.groups (block freed) (block owner) group below
      (λ g less apart. sum_of_same_functions 16 (λ j. dead_weight words (freed (16 * g + j))) (λ j. dead_weight words (owner (16 * g + j))) (λ j few. ap (dead_weight words) (others_stay g j apart few))) in
      let none = sum_of_nothing_is_zero 16 (λ j. dead_weight words (freed (16 * group + j))) none_left in
      omega (arith, change, none, sum_blocks 16 heap.groups (λ f. dead_weight words (freed f)), sum_blocks 16 heap.groups (λ f. dead_weight words (owner f)))
