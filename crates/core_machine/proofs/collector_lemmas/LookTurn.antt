-- The collector looks at a seat's answer.
use Rattle.std.proofs.Common.{suc, ◌≡◌, ℕ, ◌+◌, ◌<◌, inl, inr, refl, arith}
use Rattle.std.proofs.lemmas.Bool.Decides.{leb_tells}
use Rattle.core_machine.proofs.Terms.{Heap, IsHeap, Turning}
use Rattle.core_machine.specs.declared.collector.stage.Stage.TheVariants as stages
use Rattle.core_machine.specs.declared.step.TurningStep.TheVariants as turning
use Rattle.core_machine.specs.collector.Collector.{Collector, has_answered_of, first_work, after_last_look, after_counted_look, after_look, look_answer}
use Rattle.core_machine.specs.collector.FitsTurns.{FitsStage, CollectorFits}
use Rattle.core_machine.proofs.collector_lemmas.Works.{first_either}
use Rattle.core_machine.proofs.collector_lemmas.Standing.{StageStands, quiet_turn_stands}
use Rattle.core_machine.proofs.table_lemmas.Bits.{true_or_false}
use Rattle.core_machine.proofs.table_lemmas.StepStands.{load_step_stands}

module _ (heap : Heap) (collector : Collector) (limits : IsHeap heap) (fits : CollectorFits heap collector) (looking : collector.stage ≡ stages.Looking) (within : collector.looked < heap.seats) where
  -- it stands before a seat of the heap
  fits_looking : (looked : ℕ) → looked < heap.seats → CollectorFits heap (record collector { looked = looked })
  fits_looking looked below = record { phase_within = fits.phase_within; phase_told = fits.phase_told; at_stage = rw looking below }

  fits_first_work : FitsStage heap collector.phase heap.seats (first_work collector.phase)
  fits_first_work = first_either (FitsStage heap collector.phase heap.seats) collector.phase
      (λ marks. record { marks = record { all = refl; for_marking = marks }; group_within = limits.some_group })
      (λ copies. (record { all = refl; for_copying = copies }, limits.some_group))
      (λ sweeps. record { all = refl; for_sweep = sweeps; group_within = limits.some_group })
      (λ clears. record { all = refl; for_clearing = clears; group_within = limits.some_group; kept_within = omega arith })
      (λ nothing. record { all = refl; goes_on = nothing.uncleared })

  fits_looked_all : CollectorFits heap (after_last_look heap collector)
  fits_looked_all = record { phase_within = fits.phase_within; phase_told = fits.phase_told; at_stage = fits_first_work }

  fits_looked_on : CollectorFits heap (after_counted_look heap collector)
  fits_looked_on = elim (leb_tells (suc (collector.looked + 1)) heap.seats) as (λ _. CollectorFits heap (after_counted_look heap collector)) [
    | inl more ↦ rw more.0 (fits_looking (collector.looked + 1) more.1)
    | inr all ↦ rw all.0 fits_looked_all
  ]

  fits_looked_at : (found : ℕ) → CollectorFits heap (after_look heap collector found)
  fits_looked_at found = elim (true_or_false (has_answered_of collector.phase found)) as (λ _. CollectorFits heap (after_look heap collector found)) [
    | inl yes_ ↦ rw yes_ fits_looked_on
    | inr no_ ↦ rw no_ fits
  ]

pub stage_stands_at_looking : StageStands stages.Looking
stage_stands_at_looking heap collector limits fits looking within =
    quiet_turn_stands heap (Turning (turning.LookLoad collector.looked)) (after_look heap collector) (look_answer collector)
    (load_step_stands heap (Turning (turning.LookLoad collector.looked)) refl (omega (arith, within, limits.seats_fit))) (λ found small led. fits_looked_at heap collector limits fits looking within found)
