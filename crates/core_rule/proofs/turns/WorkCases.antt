-- What a phase is for, and the most turns of that; and where copying goes on.
use Rattle.std.specs.Prelude.{if◌then◌else◌, nat_lt}
use Rattle.std.proofs.Common.{◌≡◌, ℕ, ◌+◌, ◌*◌, ◌%◌, ◌==◌, Bool, true, false, Option, Some, None}
use Rattle.core_rule.proofs.Terms.{cycle_phases, Heap, first_work, Stage}
use Rattle.heap_model.specs.PhasePlan.{marking as marking_phase, copying as copying_phase, sweep as sweep_phase, clearing as clearing_phase}
use Rattle.heap_words.specs.declared.spot.Spot.{Spot}
use Rattle.core_machine.specs.collector.Collector.{IsForNothing}
use Rattle.core_machine.proofs.collector_lemmas.Works.{work_cases}
use Rattle.core_machine.specs.collector.Copying.{left_half, after_visited, after_seen, visit_on, after_inspected, after_located, copy_at}
use Rattle.core_machine.specs.declared.collector.stage.ArrayAt.{ArrayAt}
use Rattle.core_machine.specs.declared.collector.stage.Copying.{Copying}
use Rattle.core_machine.specs.declared.collector.stage.Copying.TheVariants as copying
use Rattle.core_machine.specs.declared.collector.stage.SpineCopy.{SpineCopy}
use Rattle.core_machine.specs.declared.collector.stage.Stage.TheVariants as stages
use Rattle.core_machine.specs.declared.collector.stage.Visit.{Visit}
use Rattle.core_rule.specs.turns.TurnsLeft.{fragment_most, visit_most, sweep_most, work_most}

-- it marks, copies, sweeps, clears marks, or does nothing; a phase that is for nothing begins as phase 0 does
pub first_work_cases : (P : Stage → ℕ → Type 0) (groups phase : ℕ) → (phase % cycle_phases ≡ marking_phase → P (stages.Passing 0 false) (16 * groups * fragment_most groups + groups + 1))
    → (phase % cycle_phases ≡ copying_phase → P (stages.Copying (copying.Visiting 0)) (visit_most * groups)) → (phase % cycle_phases ≡ sweep_phase → P (stages.Sweeping 0) (sweep_most * groups))
    → (phase % cycle_phases ≡ clearing_phase → P (stages.Clearing 0 0) groups) → (IsForNothing phase → P (first_work 0) (work_most groups 0)) → P (first_work phase) (work_most groups phase)
first_work_cases P groups phase = work_cases P phase (stages.Passing 0 false) (stages.Copying (copying.Visiting 0)) (stages.Sweeping 0) (stages.Clearing 0 0) (first_work 0)
    (16 * groups * fragment_most groups + groups + 1) (visit_most * groups) (sweep_most * groups) groups (work_most groups 0)

module _ (P : Stage → Type 0) (each : (stage : Copying) → P (stages.Copying stage)) (done : P stages.Advancing) (heap : Heap) where
  -- copying goes on with copying, or the next phase begins
  pub visited_on : (group : ℕ) → P (after_visited heap group)
  visited_on group = by (nat_lt (group + 1) heap.groups)
    where
      by : (b : Bool) → P (if b then stages.Copying (copying.Visiting (group + 1)) else stages.Advancing)
      by true = each (copying.Visiting (group + 1))
      by false = done

  pub after_seen_cases : (group marked : ℕ) (position : Option ℕ) → P (after_seen heap group marked position)
  after_seen_cases group marked None = visited_on group
  after_seen_cases group marked (Some position) = each _

  pub after_located_cases : (phase : ℕ) (array : ArrayAt) (from : Spot) → P (after_located heap phase array from)
  after_located_cases phase array from = by (from.half == left_half phase)
    where
      by : (b : Bool) → P (if b then stages.Copying (copying.Claiming array from) else visit_on heap array.visit)
      by true = each _
      by false = after_seen_cases _ _ _

  pub after_inspected_cases : (visit : Visit) (cells : Option ℕ) → P (after_inspected heap visit cells)
  after_inspected_cases visit None = after_seen_cases _ _ _
  after_inspected_cases visit (Some cells) = each _

  pub copy_at_cases : (copy : SpineCopy) → P (copy_at copy)
  copy_at_cases copy = by (nat_lt copy.index copy.array.words)
    where
      by : (b : Bool) → P (if b then stages.Copying (copying.Loading copy) else stages.Copying (copying.Swinging copy))
      by true = each _
      by false = each _
