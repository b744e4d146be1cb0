-- The scan of an array's first fragment: the place of its spine is loaded, then each word of it, and the fragment that this names is marked.
use Rattle.std.proofs.Common.{suc, ◌≡◌, ℕ, ◌+◌, ◌*◌, ◌<◌, ◌≤◌, refl, inl, inr, arith}
use Rattle.std.proofs.lemmas.Bool.Decides.{leb_tells}
use Rattle.heap_words.specs.Spot.{spot_in}
use Rattle.core_machine.proofs.Terms.{Heap, Turning, payload_in, FitsSpot}
use Rattle.core_machine.specs.declared.collector.stage.Scan.{Scan}
use Rattle.core_machine.specs.declared.collector.stage.SpineScan.{SpineScan}
use Rattle.core_machine.specs.declared.collector.stage.Stage.{Stage}
use Rattle.core_machine.specs.declared.collector.stage.Stage.TheVariants as stages
use Rattle.core_machine.specs.declared.step.Step.TheVariants.{Spine}
use Rattle.core_machine.specs.declared.step.SpineStep.TheVariants.{AddressLoad, WordLoad}
use Rattle.core_machine.specs.declared.step.TurningStep.TheVariants as turning
use Rattle.core_machine.specs.collector.Marking.{spine_step, spine_scan_at, after_address, after_spread}
use Rattle.core_machine.specs.collector.FitsTurns.{FitsStage, IsMarking}
use Rattle.core_machine.proofs.collector_lemmas.Standing.{StageStands, work_turn_stands, collector_fits_at_stage}
use Rattle.core_machine.proofs.table_lemmas.StepStands.{load_step_stands}
use Rattle.core_machine.proofs.table_lemmas.Wide.{shade_word_fits_bits}

-- a scan that comes to a spine word stands before it, or has seen to all of them
pub spine_scan_cases : (P : Stage → Type 0) (s : SpineScan) → (s.index < s.words → P (stages.Indexing s)) → (s.words ≤ s.index → P (stages.Blackening s.scan)) → P (spine_scan_at s)
spine_scan_cases P s before behind = elim (leb_tells (suc s.index) s.words) as (λ _. P (spine_scan_at s)) [
  | inl more ↦ rw more.0 (before more.1)
  | inr done ↦ rw done.0 (behind (omega (arith, done.1)))
]

-- the place that a word tells is a spot
pub told_spot_fits : (word : ℕ) → FitsSpot (spot_in word)
told_spot_fits word = record { half_within = omega arith; offset_within = omega arith }

-- two steps lead to the first spine word, and two to each further one
fits_spine : (heap : Heap) (phase looked : ℕ) (s : SpineScan) → IsMarking heap.seats phase looked → s.scan.fragment < 16 * heap.groups → s.words ≤ 2048 → s.index ≤ s.words → FitsSpot s.spine
    → s.scan.steps ≡ 2 + 2 * s.index → FitsStage heap phase looked (spine_scan_at s)
fits_spine heap phase looked s marks within few below spot made =
    spine_scan_cases (FitsStage heap phase looked) s
    (λ more. record { on = record { marks = marks; fragment_within = within; words_few = few; index_within = more; spine_within = spot }; steps_made = made })
    (λ done. record { marks = marks; fragment_within = within; few_steps = omega (arith, made, below, few) })

pub stage_stands_at_addressing : (scan : Scan) (words : ℕ) → StageStands (stages.Addressing scan words)
stage_stands_at_addressing scan words heap collector limits fits addressing here =
    work_turn_stands heap (Spine (AddressLoad scan.fragment)) (λ word. record collector { stage = after_address scan words word })
    (load_step_stands heap (Spine (AddressLoad scan.fragment)) refl (here.fragment_within, omega arith))
    (λ word small led. collector_fits_at_stage heap collector (after_address scan words word) fits
    (fits_spine heap collector.phase collector.looked _ here.marks here.fragment_within here.words_few (omega arith) (told_spot_fits word) (omega (arith, here.first_step))))

pub stage_stands_at_indexing : (s : SpineScan) → StageStands (stages.Indexing s)
stage_stands_at_indexing s heap collector limits fits indexing here =
    work_turn_stands heap (Spine (WordLoad s.spine.half (s.spine.offset + s.index))) (λ word. record collector { stage = stages.Spreading (spine_step s) (payload_in word) })
    (load_step_stands heap (Spine (WordLoad s.spine.half (s.spine.offset + s.index))) refl here.on.spine_within.half_within)
    (λ word small led. collector_fits_at_stage heap collector (stages.Spreading (spine_step s) (payload_in word)) fits (record {
      on = record { marks = here.on.marks; fragment_within = here.on.fragment_within; words_few = here.on.words_few; index_within = here.on.index_within; spine_within = here.on.spine_within };
      target_within = led;
      steps_made = omega (arith, here.steps_made);
    }))

pub stage_stands_at_spreading : (s : SpineScan) (target : ℕ) → StageStands (stages.Spreading s target)
stage_stands_at_spreading s target heap collector limits fits spreading here =
    work_turn_stands heap (Turning (turning.MarkShade target)) (λ word. record collector { stage = after_spread s })
    record { in_table = omega (arith, here.target_within); wide = λ found small. shade_word_fits_bits target found small; leads = λ found led. tt }
    (λ word small led. collector_fits_at_stage heap collector (after_spread s) fits
    (fits_spine heap collector.phase collector.looked _ here.on.marks here.on.fragment_within here.on.words_few (omega (arith, here.on.index_within)) here.on.spine_within (omega (arith, here.steps_made))))
