-- A group's marks are cleared.
use Rattle.std.proofs.Common.{suc, ℕ, ◌+◌, ◌≤◌, inl, inr, arith}
use Rattle.std.proofs.lemmas.Bool.Decides.{leb_tells}
use Rattle.core_machine.proofs.Terms.{Heap, Turning}
use Rattle.core_machine.specs.declared.collector.stage.Stage.TheVariants as stages
use Rattle.core_machine.specs.declared.step.TurningStep.TheVariants as turning
use Rattle.core_machine.specs.collector.Sweeping.{taken_count_of, after_cleared}
use Rattle.core_machine.specs.collector.FitsTurns.{FitsStage, IsClearing}
use Rattle.core_machine.proofs.collector_lemmas.Standing.{StageStands, work_turn_stands, collector_fits_at_stage}
use Rattle.core_machine.proofs.table_lemmas.Counting.{taken_count_within_group}
use Rattle.core_machine.proofs.table_lemmas.Wide.{and_fits_bits}

-- the next group is cleared, or all are
fits_cleared : (heap : Heap) (phase looked group kept more : ℕ) → IsClearing heap phase looked group kept → more ≤ 16 → FitsStage heap phase looked (after_cleared heap group (kept + more))
fits_cleared heap phase looked group kept more is few =
    elim (leb_tells (suc (group + 1)) heap.groups) as (λ _. FitsStage heap phase looked (after_cleared heap group (kept + more))) [
      | inl next ↦ rw next.0 (record { all = is.all; for_clearing = is.for_clearing; group_within = next.1; kept_within = omega (arith, is.kept_within, few) })
      | inr all ↦ rw all.0 (record { all = is.all; for_clearing = is.for_clearing; kept_within = omega (arith, is.kept_within, is.group_within, few) })
    ]

pub stage_stands_at_clearing : (group kept : ℕ) → StageStands (stages.Clearing group kept)
stage_stands_at_clearing group kept heap collector limits fits clearing here =
    work_turn_stands heap (Turning (turning.Clear group)) (λ word. record collector { stage = after_cleared heap group (kept + taken_count_of word) })
    record { in_table = here.group_within; wide = λ found small. and_fits_bits found _ small; leads = λ found led. tt }
    (λ word small led. collector_fits_at_stage heap collector (after_cleared heap group (kept + taken_count_of word)) fits
    (fits_cleared heap collector.phase collector.looked group kept (taken_count_of word) here (taken_count_within_group word)))
