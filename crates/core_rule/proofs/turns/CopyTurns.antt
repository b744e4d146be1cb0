-- Each turn of copying leaves fewer turns.
use Rattle.std.specs.Prelude.{IfSome}
use Rattle.std.proofs.Common.{◌≡◌, ℕ, suc, ◌+◌, ◌-◌, ◌*◌, ◌<◌, ◌≤◌, List, Option, Some, None, inl, inr, arith}
use Rattle.std.proofs.lemmas.Bool.Decides.{eqb_tells, leb_tells}
use Rattle.heap_words.specs.declared.spot.Spot.{Spot}
use Rattle.core_rule.proofs.Terms.{spot_in, Heap, IsCopying, FitsCopying, Stage, found_by, array_length_of, put, address_of, word_after, IsFewCopied}
use Rattle.core_machine.specs.collector.Copying.{marked_bits_of, next_position_of, left_half, after_visited, after_seen, visit_on, after_inspected, after_located, copy_at}
use Rattle.core_machine.specs.collector.CopyingTurns.{copying_step, after_copying}
use Rattle.core_machine.specs.collector.FitsTurns.{FitsVisit}
use Rattle.core_machine.specs.declared.collector.stage.ArrayAt.{ArrayAt}
use Rattle.core_machine.specs.declared.collector.stage.Copying.{Copying}
use Rattle.core_machine.specs.declared.collector.stage.Copying.TheVariants as copying
use Rattle.core_machine.specs.declared.collector.stage.SpineCopy.{SpineCopy}
use Rattle.core_machine.specs.declared.collector.stage.Stage.TheVariants as stages
use Rattle.core_machine.specs.declared.collector.stage.Visit.{Visit}
use Rattle.core_rule.specs.turns.TurnsLeft.{visit_most, copy_most, visit_left, copying_left, stage_left}
use Rattle.core_rule.proofs.turns.Lefts.{StageLeavesFewer, fewer_turns_left_at_stage}
use Rattle.core_rule.proofs.turns.NextPositions.{next_position_is_not_before, next_position_within_group}

module _ (heap : Heap) (phase looked : ℕ) (words : List ℕ) where
  -- so many turns are left at a stage
  abbrev left_at : Stage → ℕ
  left_at stage = stage_left heap words phase looked stage

  -- behind a group one visit less is left
  visited_leaves : (group : ℕ) → group < heap.groups → left_at (after_visited heap group) ≤ visit_most * (heap.groups - (group + 1))
  visited_leaves group below = elim (leb_tells (suc (group + 1)) heap.groups) as (λ _. left_at (after_visited heap group) ≤ visit_most * (heap.groups - (group + 1))) [
    | inl more ↦ rw more.0 (omega arith)
    | inr last ↦ rw last.0 (omega arith)
  ]

  -- the next marked fragment, or the next group, has no more left than from this position on
  seen_leaves : (group marked from : ℕ) (position : Option ℕ) → group < heap.groups → IfSome position (λ i. from ≤ i) → IfSome position (λ i. i < 16)
      → left_at (after_seen heap group marked position) ≤ visit_most * (heap.groups - (group + 1)) + copy_most * (16 - from)
  seen_leaves group marked from None below after within = omega (arith, visited_leaves group below)
  seen_leaves group marked from (Some position) below after within = omega (arith, after, within)

  module _ (visit : Visit) (fits : FitsVisit heap visit) where
    -- behind a fragment the most turns of one are made
    visit_on_leaves : left_at (visit_on heap visit) + copy_most ≤ visit_left heap.groups visit
    visit_on_leaves =
        let next = seen_leaves visit.group visit.marked (visit.position + 1) (next_position_of visit.marked (visit.position + 1)) fits.group_within
        (next_position_is_not_before visit.marked (visit.position + 1)) (next_position_within_group visit.marked (visit.position + 1)) in
        omega (arith, next, fits.position_within)

    inspected_leaves : (cells : Option ℕ) → left_at (after_inspected heap visit cells) < visit_left heap.groups visit
    inspected_leaves None = omega (arith, visit_on_leaves)
    inspected_leaves (Some cells) = omega (arith, fits.position_within)

  located_leaves : (array : ArrayAt) (from : Spot) → FitsVisit heap array.visit → left_at (after_located heap phase array from) < visit_left heap.groups array.visit - 2
  located_leaves array from fits = elim (eqb_tells from.half (left_half phase)) as (λ _. left_at (after_located heap phase array from) < visit_left heap.groups array.visit - 2) [
    | inl left ↦ rw left.0 (omega (arith, fits.position_within))
    | inr other ↦ rw other.0 (omega (arith, visit_on_leaves array.visit fits))
  ]

  -- a copy that comes to its next word, or is whole
  copy_leaves : (copy : SpineCopy) → left_at (copy_at copy) ≡ visit_left heap.groups copy.array.visit - (4 + 2 * copy.index)
  copy_leaves copy = elim (leb_tells (suc copy.index) copy.array.words) as (λ _. left_at (copy_at copy) ≡ visit_left heap.groups copy.array.visit - (4 + 2 * copy.index)) [
    | inl more ↦ rw more.0
    | inr whole ↦ rw whole.0
  ]

-- so few turns are left by the turn of this stage
abbrev pub CopyingLeaves : Copying → Type 0
CopyingLeaves stage = (heap : Heap) (phase looked : ℕ) (words : List ℕ) (found : ℕ) → FitsCopying heap stage → IsFewCopied stage
    → stage_left heap words phase looked (after_copying heap phase stage found) < copying_left heap.groups stage

pub visiting_leaves_fewer : (group : ℕ) → CopyingLeaves (copying.Visiting group)
visiting_leaves_fewer group heap phase looked words found fits few =
    let next = seen_leaves heap phase looked words group (marked_bits_of found) 0 (next_position_of (marked_bits_of found) 0) fits (next_position_is_not_before (marked_bits_of found) 0) (next_position_within_group (marked_bits_of found) 0) in
    omega (arith, next, fits)

pub inspecting_leaves_fewer : (visit : Visit) → CopyingLeaves (copying.Inspecting visit)
inspecting_leaves_fewer visit heap phase looked words found fits few = inspected_leaves heap phase looked words visit fits (array_length_of found)

pub naming_leaves_fewer : (visit : Visit) (n : ℕ) → CopyingLeaves (copying.Naming visit n)
naming_leaves_fewer visit n heap phase looked words found fits few = omega (arith, fits.0.position_within)

pub locating_leaves_fewer : (array : ArrayAt) → CopyingLeaves (copying.Locating array)
locating_leaves_fewer array heap phase looked words found fits few = located_leaves heap phase looked words array (spot_in found) fits.there

pub claiming_leaves_fewer : (array : ArrayAt) (from : Spot) → CopyingLeaves (copying.Claiming array from)
claiming_leaves_fewer array from heap phase looked words found fits few =
    rw (copy_leaves heap phase looked words (record { array = array; from = from; to = spot_in found; index = 0 })) (omega (arith, fits.0.there.position_within))

pub loading_leaves_fewer : (copy : SpineCopy) → CopyingLeaves (copying.Loading copy)
loading_leaves_fewer copy heap phase looked words found fits few = omega (arith, fits.0.array_fits.there.position_within, fits.1, few)

pub storing_leaves_fewer : (copy : SpineCopy) (word : ℕ) → CopyingLeaves (copying.Storing copy word)
storing_leaves_fewer copy word heap phase looked words found fits few =
    rw (copy_leaves heap phase looked words (record copy { index = copy.index + 1 })) (omega (arith, fits.copies.array_fits.there.position_within, fits.more, few))

pub swinging_leaves_fewer : (copy : SpineCopy) → CopyingLeaves (copying.Swinging copy)
swinging_leaves_fewer copy heap phase looked words found fits few = omega (arith, visit_on_leaves heap phase looked words copy.array.visit fits.0.array_fits.there, fits.1, few)

-- so the turn leaves fewer
pub copy_turn_leaves_fewer : (stage : Copying) → CopyingLeaves stage → IsFewCopied stage → StageLeavesFewer (stages.Copying stage)
copy_turn_leaves_fewer stage leaves few heap state book rule copies stepped =
    let fits : IsCopying heap.seats state.collector.phase state.collector.looked × FitsCopying heap stage = rw copies at rule.machine.collector_fit.at_stage in
    let found : ℕ = found_by heap state (copying_step stage) in
    let now : List ℕ = put heap state.words (address_of (copying_step stage)) (word_after (copying_step stage) found) in
    fewer_turns_left_at_stage heap state (stages.Copying stage) now state.collector.looked (after_copying heap state.collector.phase stage found) copies
    (leaves heap state.collector.phase state.collector.looked now found fits.1 few)
