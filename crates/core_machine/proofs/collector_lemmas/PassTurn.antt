-- A group's control word is loaded.
use Rattle.std.proofs.Common.{suc, ℕ, ◌+◌, ◌<◌, Bool, true, false, Option, Some, None, refl, inl, inr, arith}
use Rattle.std.specs.Prelude.{IfSome}
use Rattle.std.proofs.lemmas.Bool.Decides.{leb_tells}
use Rattle.core_machine.proofs.Terms.{Heap, IsHeap, Turning}
use Rattle.core_machine.specs.declared.collector.stage.Stage.TheVariants as stages
use Rattle.core_machine.specs.declared.step.TurningStep.TheVariants as turning
use Rattle.core_machine.specs.collector.Marking.{lowest_grey_of, after_last_group, after_group, after_pass}
use Rattle.core_machine.specs.collector.FitsTurns.{FitsStage, IsMarking}
use Rattle.core_machine.proofs.collector_lemmas.Standing.{StageStands, work_turn_stands, collector_fits_at_stage}
use Rattle.core_machine.proofs.table_lemmas.Grey.{lowest_grey_within_group}
use Rattle.core_machine.proofs.table_lemmas.StepStands.{load_step_stands}

module _ (heap : Heap) (limits : IsHeap heap) (phase looked : ℕ) (marks : IsMarking heap.seats phase looked) where
  fits_last_group : (found : Bool) → FitsStage heap phase looked (after_last_group found)
  fits_last_group true = record { marks = marks; group_within = limits.some_group }
  fits_last_group false = marks

  fits_group : (group : ℕ) (found : Bool) → FitsStage heap phase looked (after_group heap group found)
  fits_group group found = elim (leb_tells (suc (group + 1)) heap.groups) as (λ _. FitsStage heap phase looked (after_group heap group found)) [
    | inl more ↦ rw more.0 (record { marks = marks; group_within = more.1 })
    | inr all ↦ rw all.0 (fits_last_group found)
  ]

  -- the position that was found is one of the group's
  fits_pass : (group : ℕ) (found : Bool) (position : Option ℕ) → group < heap.groups → IfSome position (λ i. i < 16) → FitsStage heap phase looked (after_pass heap group found position)
  fits_pass group found None within few = fits_group group found
  fits_pass group found (Some position) within few =
      record { marks = marks; fragment_within = omega (arith, within, few); part_within = omega arith; few_steps = omega arith }

pub stage_stands_at_passing : (group : ℕ) (found : Bool) → StageStands (stages.Passing group found)
stage_stands_at_passing group found heap collector limits fits passing here =
    work_turn_stands heap (Turning (turning.GroupLoad group)) (λ word. record collector { stage = after_pass heap group found (lowest_grey_of word) })
    (load_step_stands heap (Turning (turning.GroupLoad group)) refl here.group_within)
    (λ word small led. collector_fits_at_stage heap collector (after_pass heap group found (lowest_grey_of word)) fits
    (fits_pass heap limits collector.phase collector.looked here.marks group found (lowest_grey_of word) here.group_within (lowest_grey_within_group word)))
