-- Each turn of the sweep and of the clearing leaves fewer turns of the cycle, since it leaves fewer of those that are left where no seat makes a step between.
use Rattle.std.proofs.Common.{◌≡◌, ℕ, ◌+◌, ◌-◌, ◌*◌, ◌%◌, ◌<◌, List, Option, Some, None, inl, inr, refl, subst, arith}
use Rattle.std.proofs.lemmas.Bool.Decides.{eqb_tells}
use Rattle.core_rule.proofs.Terms.{cycle_phases, Heap, Stage, State, Control, at, turn_at, state_after_turn}
use Rattle.heap_model.specs.PhasePlan.{clearing}
use Rattle.core_machine.specs.collector.Sweeping.{dead_bits_of, next_position_of, after_swept, after_examined, after_freed, after_cleared}
use Rattle.core_machine.specs.declared.collector.stage.Stage.TheVariants as stages
use Rattle.core_rule.specs.turns.TurnsLeft.{stage_left, phase_most, turns_left_at, turns_left}
use Rattle.core_rule.proofs.marking.SweepMarks.{after_swept_either, after_freed_either, after_cleared_either}
use Rattle.core_rule.proofs.steps.collector.{turn_kind_of_each_stage}
use Rattle.space_plan.specs.cycle_turns.CycleLeft.{left_in_phase, cycle_left_at, cycle_left}
use Rattle.space_plan.proofs.cycle_turns.Lefts.{StageLeavesFewer, fewer_left_at_stage}

-- at this stage as many turns of the phase are left as where no seat makes a step
abbrev LeftAlike : Stage → Type 0
LeftAlike stage = (heap : Heap) (words : List ℕ) (phase looked : ℕ) → left_in_phase heap words phase looked stage ≡ stage_left heap words phase looked stage

swept_alike : (heap : Heap) (group : ℕ) → LeftAlike (after_swept heap group)
swept_alike heap group = after_swept_either LeftAlike heap group (λ heap words phase looked. refl) (λ end heap words phase looked. refl)

examined_alike : (heap : Heap) (group dead counted : ℕ) (position : Option ℕ) → LeftAlike (after_examined heap group dead counted position)
examined_alike heap group dead counted (Some position) = λ heap words phase looked. refl
examined_alike heap group dead counted None = elim (eqb_tells dead 0) as (λ _. LeftAlike (after_examined heap group dead counted None)) [
  | inl none ↦ rw none.0 (swept_alike heap group)
  | inr some ↦ rw some.0 (λ heap words phase looked. refl)
]

freed_alike : (heap : Heap) (group counted : ℕ) → LeftAlike (after_freed heap group counted)
freed_alike heap group counted = after_freed_either LeftAlike heap group counted (swept_alike heap group) (λ heap words phase looked. refl)

cleared_alike : (heap : Heap) (group kept : ℕ) → LeftAlike (after_cleared heap group kept)
cleared_alike heap group kept = after_cleared_either LeftAlike heap group kept (λ heap words phase looked. refl) (λ end heap words phase looked. refl)

-- between two such stages fewer are left of the cycle where fewer are so
late_leaves_fewer : (heap : Heap) (state : State) (stage : Stage) (here : state.collector.stage ≡ stage) (now : List ℕ) (next : Stage) → LeftAlike stage → LeftAlike next
    → turns_left_at heap now state.collector.phase state.collector.looked next < turns_left heap state
    → cycle_left_at heap now state.collector.phase state.collector.looked next < cycle_left heap state
late_leaves_fewer heap state stage here now next alike later fewer =
    let less = subst (λ s. turns_left_at heap now state.collector.phase state.collector.looked next < turns_left_at heap state.words state.collector.phase state.collector.looked s) here fewer in
    fewer_left_at_stage heap state stage here now state.collector.looked next
    (by _ _ _ _ (later heap now state.collector.phase state.collector.looked) (alike heap state.words state.collector.phase state.collector.looked) (cancelled ((clearing - state.collector.phase % cycle_phases) * phase_most heap) _ _ less))
  where
    cancelled : (m a b : ℕ) → m + a < m + b → a < b
    cancelled m a b less = omega (arith, less)

    by : (l a m b : ℕ) → l ≡ a → m ≡ b → a < b → l < m
    by l a m b one other less = omega (arith, one, other, less)

-- the words after the turn at a stage
abbrev words_after : Heap → State → Stage → List ℕ
words_after heap state stage = (state_after_turn heap state (turn_at heap state.collector stage)).words

pub sweeping_leaves_fewer : (group : ℕ) → StageLeavesFewer (stages.Sweeping group)
sweeping_leaves_fewer group heap state book rule here stepped =
    let dead : ℕ = dead_bits_of (at heap state.words (Control group)) in
    late_leaves_fewer heap state (stages.Sweeping group) here (words_after heap state (stages.Sweeping group)) _ (λ heap words phase looked. refl) (examined_alike heap group dead 0 (next_position_of dead 0))
    ((turn_kind_of_each_stage (stages.Sweeping group)).fewer tt heap state book rule here stepped)

pub examining_leaves_fewer : (group dead position counted : ℕ) → StageLeavesFewer (stages.Examining group dead position counted)
examining_leaves_fewer group dead position counted heap state book rule here stepped =
    late_leaves_fewer heap state (stages.Examining group dead position counted) here (words_after heap state (stages.Examining group dead position counted)) _ (λ heap words phase looked. refl) (examined_alike heap group dead _ _)
    ((turn_kind_of_each_stage (stages.Examining group dead position counted)).fewer tt heap state book rule here stepped)

pub freeing_leaves_fewer : (group dead counted : ℕ) → StageLeavesFewer (stages.Freeing group dead counted)
freeing_leaves_fewer group dead counted heap state book rule here stepped =
    late_leaves_fewer heap state (stages.Freeing group dead counted) here (words_after heap state (stages.Freeing group dead counted)) _ (λ heap words phase looked. refl) (freed_alike heap group counted)
    ((turn_kind_of_each_stage (stages.Freeing group dead counted)).fewer tt heap state book rule here stepped)

pub returning_leaves_fewer : (group counted : ℕ) → StageLeavesFewer (stages.Returning group counted)
returning_leaves_fewer group counted heap state book rule here stepped =
    late_leaves_fewer heap state (stages.Returning group counted) here (words_after heap state (stages.Returning group counted)) _ (λ heap words phase looked. refl) (swept_alike heap group)
    ((turn_kind_of_each_stage (stages.Returning group counted)).fewer tt heap state book rule here stepped)

pub clearing_leaves_fewer : (group kept : ℕ) → StageLeavesFewer (stages.Clearing group kept)
clearing_leaves_fewer group kept heap state book rule here stepped =
    late_leaves_fewer heap state (stages.Clearing group kept) here (words_after heap state (stages.Clearing group kept)) _ (λ heap words phase looked. refl) (cleared_alike heap group _)
    ((turn_kind_of_each_stage (stages.Clearing group kept)).fewer tt heap state book rule here stepped)
