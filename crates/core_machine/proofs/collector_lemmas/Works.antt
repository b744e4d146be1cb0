-- What a phase is for: each of the five in turn.
use Rattle.std.specs.Prelude.{if◌then◌else◌}
use Rattle.std.proofs.Common.{◌≡◌, ◌≢◌, ℕ, ◌%◌, ◌==◌, false, inl, inr}
use Rattle.std.proofs.lemmas.Bool.Decides.{eqb_tells}
use Rattle.heap_model.specs.PhasePlan.{cycle_phases, sweep as sweep_phase, clearing as clearing_phase, marking as marking_phase, copying as copying_phase}
use Rattle.core_machine.specs.declared.collector.stage.Copying.TheVariants.{Visiting}
use Rattle.core_machine.specs.declared.collector.stage.Stage.{Stage}
use Rattle.core_machine.specs.declared.collector.stage.Stage.TheVariants as stages
use Rattle.core_machine.specs.collector.Collector.{by_work, IsForNothing, first_work}

module _ {A B : Type 0} (P : A → B → Type 0) (phase : ℕ) (a b c d e : A) (v w x y z : B) where
  -- it sweeps, clears marks, or does nothing
  late_either : (phase % cycle_phases ≡ sweep_phase → P c x) → (phase % cycle_phases ≡ clearing_phase → P d y) → (phase % cycle_phases ≢ sweep_phase → phase % cycle_phases ≢ clearing_phase → P e z)
      → P (if phase % cycle_phases == sweep_phase then c else if phase % cycle_phases == clearing_phase then d else e) (if phase % cycle_phases == sweep_phase then x else if phase % cycle_phases == clearing_phase then y else z)
  late_either sweeps clears none = elim (eqb_tells (phase % cycle_phases) sweep_phase)
      as (λ _. P (if phase % cycle_phases == sweep_phase then c else if phase % cycle_phases == clearing_phase then d else e) (if phase % cycle_phases == sweep_phase then x else if phase % cycle_phases == clearing_phase then y else z)) [
        | inl fifth ↦ rw fifth.0 (sweeps fifth.1)
        | inr unswept ↦ rw unswept.0 (elim (eqb_tells (phase % cycle_phases) clearing_phase) as (λ _. P (if phase % cycle_phases == clearing_phase then d else e) (if phase % cycle_phases == clearing_phase then y else z)) [
          | inl last ↦ rw last.0 (clears last.1)
          | inr other ↦ rw other.0 (none unswept.1 other.1)
        ])
      ]

  -- so what is true of two by each is true of those of the phase
  pub work_cases : (phase % cycle_phases ≡ marking_phase → P a v) → (phase % cycle_phases ≡ copying_phase → P b w) → (phase % cycle_phases ≡ sweep_phase → P c x) → (phase % cycle_phases ≡ clearing_phase → P d y)
      → (IsForNothing phase → P e z) → P (by_work phase a b c d e) (by_work phase v w x y z)
  work_cases marks copies sweeps clears none = elim (eqb_tells (phase % cycle_phases) marking_phase) as (λ _. P (by_work phase a b c d e) (by_work phase v w x y z)) [
    | inl third ↦ rw third.0 (marks third.1)
    | inr unmarked ↦ rw unmarked.0 (elim (eqb_tells (phase % cycle_phases) copying_phase) as (λ _.
        P (if phase % cycle_phases == copying_phase then b else if phase % cycle_phases == sweep_phase then c else if phase % cycle_phases == clearing_phase then d else e)
        (if phase % cycle_phases == copying_phase then w else if phase % cycle_phases == sweep_phase then x else if phase % cycle_phases == clearing_phase then y else z)) [
          | inl fourth ↦ rw fourth.0 (copies fourth.1)
          | inr uncopied ↦ rw uncopied.0 (late_either sweeps clears
              (λ unswept uncleared. none record { unmarked = unmarked.1; uncopied = uncopied.1; unswept = unswept; uncleared = uncleared }))
        ])
  ]

-- and what is true of the stage with which each begins is true of the one where the phase's work begins; a phase that is for nothing begins as phase 0 does
pub first_either : (P : Stage → Type 0) (phase : ℕ) → (phase % cycle_phases ≡ marking_phase → P (stages.Passing 0 false)) → (phase % cycle_phases ≡ copying_phase → P (stages.Copying (Visiting 0)))
    → (phase % cycle_phases ≡ sweep_phase → P (stages.Sweeping 0)) → (phase % cycle_phases ≡ clearing_phase → P (stages.Clearing 0 0)) → (IsForNothing phase → P (first_work 0)) → P (first_work phase)
first_either P phase =
    work_cases (λ stage (n : ℕ). P stage) phase (stages.Passing 0 false) (stages.Copying (Visiting 0)) (stages.Sweeping 0) (stages.Clearing 0 0) (first_work 0) 0 0 0 0 0
