-- What stands of marking at the stages of the sweep.
use Rattle.std.specs.Prelude.{if◌then◌else◌}
use Rattle.std.proofs.Common.{◌≡◌, ◌≢◌, ℕ, suc, ◌+◌, ◌%◌, ◌==◌, ◌^◌, ◌<◌, ◌≤◌, List, Option, Some, None, inl, inr, arith}
use Rattle.std.proofs.lemmas.Bool.Decides.{eqb_tells, leb_tells}
use Rattle.core_rule.proofs.Terms.{cycle_phases, Heap, Stage, Colour, ScanStands, IsFewWords, PassStands, AfterMarking, MarkingStands, SweepStands, AreFreed, AreDead, Owner}
use Rattle.heap_model.specs.PhasePlan.{sweep as sweep_phase}
use Rattle.core_machine.specs.collector.Sweeping.{after_swept, after_examined, after_freed, after_cleared}
use Rattle.core_machine.specs.declared.collector.stage.Stage.TheVariants as stages
use Rattle.core_rule.proofs.owners.DeadOwners.{are_freed_where_none_set}

-- the stage is none of the sweep and none of the clearing
abbrev pub IsUnswept : Stage → Type 0
IsUnswept (stages.Sweeping group) = ⊥
IsUnswept (stages.Examining group dead position counted) = ⊥
IsUnswept (stages.Freeing group dead counted) = ⊥
IsUnswept (stages.Returning group counted) = ⊥
IsUnswept (stages.Clearing group kept) = ⊥
IsUnswept (stages.Ending kept) = ⊥
IsUnswept _ = Unit {0}

-- there nothing is asked of what is freed, in a phase that isn't that of the sweep
pub sweep_stands_unswept : (heap : Heap) (owner : ℕ → Owner) (colour : ℕ → Colour) (phase : ℕ) (stage : Stage) → IsUnswept stage → phase % cycle_phases ≢ sweep_phase → SweepStands heap owner colour phase stage
sweep_stands_unswept heap owner colour phase (stages.Sweeping group) unswept other = absurd unswept
sweep_stands_unswept heap owner colour phase (stages.Examining group dead position counted) unswept other = absurd unswept
sweep_stands_unswept heap owner colour phase (stages.Freeing group dead counted) unswept other = absurd unswept
sweep_stands_unswept heap owner colour phase (stages.Returning group counted) unswept other = absurd unswept
sweep_stands_unswept heap owner colour phase (stages.Clearing group kept) unswept other = absurd unswept
sweep_stands_unswept heap owner colour phase (stages.Ending kept) unswept other = absurd unswept
sweep_stands_unswept heap owner colour phase stages.Advancing unswept other = λ swept. absurd (other swept)
sweep_stands_unswept heap owner colour phase _ unswept other = tt

-- what holds of either of the stages that come after a group of the sweep
pub after_swept_either : (P : Stage → Type 0) (heap : Heap) (group : ℕ) → P (stages.Sweeping (group + 1)) → (heap.groups ≤ group + 1 → P stages.Advancing) → P (after_swept heap group)
after_swept_either P heap group on end = elim (leb_tells (suc (group + 1)) heap.groups) as (λ _. P (after_swept heap group)) [
  | inl more ↦ rw more.0 on
  | inr last ↦ rw last.0 (end (omega (arith, last.1)))
]

-- and of those that come after its fragments are freed
pub after_freed_either : (P : Stage → Type 0) (heap : Heap) (group counted : ℕ) → P (after_swept heap group) → P (stages.Returning group counted) → P (after_freed heap group counted)
after_freed_either P heap group counted on returns = elim (eqb_tells counted 0) as (λ _. P (after_freed heap group counted)) [
  | inl none ↦ rw none.0 on
  | inr some ↦ rw some.0 returns
]

-- and after one of the clearing
pub after_cleared_either : (P : Stage → Type 0) (heap : Heap) (group kept : ℕ) → P (stages.Clearing (group + 1) kept) → (heap.groups ≤ group + 1 → P (stages.Ending kept)) → P (after_cleared heap group kept)
after_cleared_either P heap group kept on end = elim (leb_tells (suc (group + 1)) heap.groups) as (λ _. P (after_cleared heap group kept)) [
  | inl more ↦ rw more.0 on
  | inr last ↦ rw last.0 (end (omega (arith, last.1)))
]

module _ (heap : Heap) (words : List ℕ) (owner : ℕ → Owner) (colour : ℕ → Colour) (fragments : ℕ → List ℕ) (phase : ℕ) (sweeps : phase % cycle_phases ≡ sweep_phase) (after : AfterMarking owner colour) where
  -- marking is over
  swept_at : (stage : Stage) → ScanStands heap words owner colour fragments stage → IsFewWords stage → PassStands colour stage → SweepStands heap owner colour phase stage
      → MarkingStands heap words owner colour fragments phase stage
  swept_at stage scan few pass sweep = record {
    grey = λ f grey. absurd (after.no_grey f grey);
    scan = scan;
    few = few;
    pass = pass;
    sweep_stands = sweep;
    alive = λ going. absurd (going (inr (inr sweeps)));
    after = λ settled. after;
  }

  -- the next group's turn comes where nothing is to be freed up to this one
  pub marking_stands_after_swept : (group : ℕ) → AreFreed owner (group + 1) → MarkingStands heap words owner colour fragments phase (after_swept heap group)
  marking_stands_after_swept group freed = after_swept_either (MarkingStands heap words owner colour fragments phase) heap group (swept_at (stages.Sweeping (group + 1)) tt tt tt freed)
      (λ last. swept_at stages.Advancing tt tt tt (λ is f i k less. freed f i k (omega (arith, less, last))))

  -- and where its words are returned first
  pub marking_stands_after_freed : (group counted : ℕ) → AreFreed owner (group + 1) → MarkingStands heap words owner colour fragments phase (after_freed heap group counted)
  marking_stands_after_freed group counted freed = after_freed_either (MarkingStands heap words owner colour fragments phase) heap group counted (marking_stands_after_swept group freed)
      (swept_at (stages.Returning group counted) tt tt tt freed)

  module _ (group dead : ℕ) (small : dead < 2 ^ 16) (freed : AreFreed owner group) (are : AreDead owner group dead) where
    -- behind the last dead one they are freed, where there are any
    examined_all : (counted : ℕ) → MarkingStands heap words owner colour fragments phase (if dead == 0 then after_swept heap group else stages.Freeing group dead counted)
    examined_all counted = elim (eqb_tells dead 0) as (λ _. MarkingStands heap words owner colour fragments phase (if dead == 0 then after_swept heap group else stages.Freeing group dead counted)) [
      | inl none ↦ rw none.0 (marking_stands_after_swept group (are_freed_where_none_set owner group dead small are none.1 freed))
      | inr some ↦ rw some.0 (swept_at (stages.Freeing group dead counted) tt tt tt (freed, are))
    ]

    pub marking_stands_after_examined : (counted : ℕ) (position : Option ℕ) → MarkingStands heap words owner colour fragments phase (after_examined heap group dead counted position)
    marking_stands_after_examined counted (Some position) = swept_at (stages.Examining group dead position counted) tt tt tt (freed, are)
    marking_stands_after_examined counted None = examined_all counted
