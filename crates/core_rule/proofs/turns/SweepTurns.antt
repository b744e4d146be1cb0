-- Each turn of the sweep and of the clearing leaves fewer turns.
use Rattle.std.specs.Prelude.{IfSome}
use Rattle.std.proofs.Common.{◌≡◌, ℕ, ◌+◌, ◌-◌, ◌*◌, ◌<◌, ◌≤◌, List, Option, Some, None, inl, inr, bit_and, arith}
use Rattle.std.proofs.lemmas.Bool.Decides.{eqb_tells}
use Rattle.heap_words.specs.Control.{free_mask_of, marks_cleared}
use Rattle.core_rule.proofs.Terms.{Heap, IsSweeping, IsExamining, IsFreeing, IsReturning, IsClearing, Budget, Control, Word, spine_words_in, at, put, word_after}
use Rattle.core_machine.specs.collector.Sweeping.{dead_bits_of, next_position_of, taken_count_of, after_swept, after_examined, after_freed, after_cleared}
use Rattle.core_machine.specs.declared.collector.stage.Stage.TheVariants as stages
use Rattle.core_machine.specs.declared.step.CopyingStep.TheVariants.{BudgetReturn}
use Rattle.core_machine.specs.declared.step.Step.TheVariants.{Copying}
use Rattle.core_rule.specs.turns.TurnsLeft.{stage_left}
use Rattle.core_rule.proofs.marking.SweepMarks.{after_swept_either, after_cleared_either}
use Rattle.core_rule.proofs.turns.Lefts.{StageLeavesFewer, fewer_turns_left_at_stage}
use Rattle.core_rule.proofs.turns.NextPositions.{next_position_is_not_before, next_position_within_group}

module _ (heap : Heap) (phase looked : ℕ) (words : List ℕ) (group : ℕ) (below : group < heap.groups) where
  -- behind a group that is swept less is left than before its last turn
  swept_leaves : (before : ℕ) → 19 * (heap.groups - group) < before + 19 → stage_left heap words phase looked (after_swept heap group) < before
  swept_leaves before last = after_swept_either (λ stage. stage_left heap words phase looked stage < before) heap group (omega (arith, last, below)) (λ end. omega (arith, last, below))

  -- a later fragment is looked at, or the dead ones are freed, or there were none
  examined_leaves : (dead counted from before : ℕ) (position : Option ℕ) → before + from ≡ 19 * (heap.groups - group) → from ≤ 16 → IfSome position (λ i. from ≤ i) → IfSome position (λ i. i < 16)
      → stage_left heap words phase looked (after_examined heap group dead counted position) < before
  examined_leaves dead counted from before (Some i) is few after within = omega (arith, is, below, after, within)
  examined_leaves dead counted from before None is few after within = elim (eqb_tells dead 0) as (λ _. stage_left heap words phase looked (after_examined heap group dead counted None) < before) [
    | inl none ↦ rw none.0 (swept_leaves before (omega (arith, is, few)))
    | inr some ↦ rw some.0 (omega (arith, is, few, below))
  ]

  -- the spine words of what was freed are returned, where there are any
  freed_leaves : (counted : ℕ) → stage_left heap words phase looked (after_freed heap group counted) < 19 * (heap.groups - group) - 16 - 1
  freed_leaves counted = elim (eqb_tells counted 0) as (λ _. stage_left heap words phase looked (after_freed heap group counted) < 19 * (heap.groups - group) - 16 - 1) [
    | inl none ↦ rw none.0 (swept_leaves (19 * (heap.groups - group) - 16 - 1) (omega (arith, below)))
    | inr some ↦ rw some.0 (omega (arith, below))
  ]

pub sweep_leaves_fewer : (group : ℕ) → StageLeavesFewer (stages.Sweeping group)
sweep_leaves_fewer group heap state book rule sweeping stepped =
    let fits : IsSweeping heap state.collector.phase state.collector.looked group = rw sweeping at rule.machine.collector_fit.at_stage in
    let dead : ℕ = dead_bits_of (at heap state.words (Control group)) in
    let now : List ℕ = put heap state.words (Control group) (at heap state.words (Control group)) in
    fewer_turns_left_at_stage heap state (stages.Sweeping group) now state.collector.looked (after_examined heap group dead 0 (next_position_of dead 0)) sweeping
    (examined_leaves heap state.collector.phase state.collector.looked now group fits.group_within dead 0 0 (19 * (heap.groups - group)) (next_position_of dead 0)
    (omega arith) (omega arith) (next_position_is_not_before dead 0) (next_position_within_group dead 0))

pub examine_leaves_fewer : (group dead position counted : ℕ) → StageLeavesFewer (stages.Examining group dead position counted)
examine_leaves_fewer group dead position counted heap state book rule examining stepped =
    let fits : IsExamining heap state.collector.phase state.collector.looked group dead position counted = rw examining at rule.machine.collector_fit.at_stage in
    let word : ℕ = at heap state.words (Word (16 * group + position) 0) in
    let now : List ℕ = put heap state.words (Word (16 * group + position) 0) word in
    fewer_turns_left_at_stage heap state (stages.Examining group dead position counted) now state.collector.looked (after_examined heap group dead (counted + spine_words_in word) (next_position_of dead (position + 1))) examining
    (examined_leaves heap state.collector.phase state.collector.looked now group fits.sweeps.group_within dead (counted + spine_words_in word) (position + 1) (19 * (heap.groups - group) - (position + 1))
    (next_position_of dead (position + 1)) (omega (arith, fits.position_within, fits.sweeps.group_within)) (omega (arith, fits.position_within)) (next_position_is_not_before dead (position + 1)) (next_position_within_group dead (position + 1)))

pub free_leaves_fewer : (group dead counted : ℕ) → StageLeavesFewer (stages.Freeing group dead counted)
free_leaves_fewer group dead counted heap state book rule freeing stepped =
    let fits : IsFreeing heap state.collector.phase state.collector.looked group dead counted = rw freeing at rule.machine.collector_fit.at_stage in
    let now : List ℕ = put heap state.words (Control group) (bit_and (at heap state.words (Control group)) (free_mask_of dead)) in
    fewer_turns_left_at_stage heap state (stages.Freeing group dead counted) now state.collector.looked (after_freed heap group counted) freeing
    (freed_leaves heap state.collector.phase state.collector.looked now group fits.sweeps.group_within counted)

pub return_leaves_fewer : (group counted : ℕ) → StageLeavesFewer (stages.Returning group counted)
return_leaves_fewer group counted heap state book rule returning stepped =
    let fits : IsReturning heap state.collector.phase state.collector.looked group counted = rw returning at rule.machine.collector_fit.at_stage in
    let now : List ℕ = put heap state.words Budget (word_after (Copying (BudgetReturn counted)) (at heap state.words Budget)) in
    fewer_turns_left_at_stage heap state (stages.Returning group counted) now state.collector.looked (after_swept heap group) returning
    (swept_leaves heap state.collector.phase state.collector.looked now group fits.sweeps.group_within (19 * (heap.groups - group) - 16 - 2) (omega (arith, fits.sweeps.group_within)))

pub clear_leaves_fewer : (group kept : ℕ) → StageLeavesFewer (stages.Clearing group kept)
clear_leaves_fewer group kept heap state book rule clearing stepped =
    let fits : IsClearing heap state.collector.phase state.collector.looked group kept = rw clearing at rule.machine.collector_fit.at_stage in
    let now : List ℕ = put heap state.words (Control group) (bit_and (at heap state.words (Control group)) marks_cleared) in
    let counted : ℕ = kept + taken_count_of (at heap state.words (Control group)) in
    fewer_turns_left_at_stage heap state (stages.Clearing group kept) now state.collector.looked (after_cleared heap group counted) clearing
    (after_cleared_either (λ stage. stage_left heap now state.collector.phase state.collector.looked stage < heap.groups - group) heap group counted
    (omega (arith, fits.group_within)) (λ end. omega (arith, fits.group_within)))

-- a turn that ends a cycle is no step
pub end_leaves_fewer : (kept : ℕ) → StageLeavesFewer (stages.Ending kept)
end_leaves_fewer kept heap state book rule ending stepped = absurd (cc stepped)
