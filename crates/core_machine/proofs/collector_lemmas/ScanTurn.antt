-- A word of a grey fragment is loaded.
use Rattle.std.specs.Prelude.{IfSome}
use Rattle.std.proofs.Common.{suc, ◌≡◌, ℕ, ◌*◌, ◌^◌, ◌<◌, ◌≤◌, Option, Some, None, refl, inl, inr, arith}
use Rattle.std.proofs.lemmas.Bool.Decides.{eqb_tells, leb_tells}
use Rattle.core_machine.proofs.Terms.{Heap, Turning, is_meta, pointer_in, array_length_of, IsWithinHeap}
use Rattle.core_machine.specs.declared.collector.stage.Scan.{Scan}
use Rattle.core_machine.specs.declared.collector.stage.Stage.TheVariants as stages
use Rattle.core_machine.specs.declared.step.TurningStep.TheVariants as turning
use Rattle.core_machine.specs.collector.Marking.{part_after, scan_step, scan_at, after_scan_load, array_at, after_first_load}
use Rattle.core_machine.specs.collector.FitsTurns.{FitsStage, IsMarking, IsScanning}
use Rattle.core_machine.proofs.collector_lemmas.Standing.{StageStands, work_turn_stands, collector_fits_at_stage}
use Rattle.core_machine.proofs.table_lemmas.Bits.{true_or_false}
use Rattle.core_machine.proofs.table_lemmas.Lengths.{array_length_is_small}
use Rattle.core_machine.proofs.table_lemmas.StepStands.{load_step_stands}

-- each word comes after the one before it, and none after the fourth
after_part : (part word : ℕ) → part < 4 → (part < part_after part word) × (part_after part word ≤ 4)
after_part part word within = elim (eqb_tells part 0) as (λ _. (part < part_after part word) × (part_after part word ≤ 4)) [
  | inl first ↦ elim (true_or_false (is_meta word)) as (λ _. (part < part_after part word) × (part_after part word ≤ 4)) [
    | inl meta ↦ rw (first.0, meta) (omega (arith, first.1), omega arith)
    | inr link ↦ rw (first.0, link) (omega (arith, first.1), omega arith)
  ]
  | inr later ↦ rw later.0 (omega arith, omega (arith, within))
]

module _ (heap : Heap) (phase looked : ℕ) (marks : IsMarking heap.seats phase looked) (scan : Scan) (within : scan.fragment < 16 * heap.groups) where
  -- the scan comes to a word by few steps
  pub scan_stage_fits : (part : ℕ) → part ≤ 4 → scan.steps ≤ 2 * part → FitsStage heap phase looked (scan_at scan part)
  scan_stage_fits part below few = elim (leb_tells (suc part) 4) as (λ _. FitsStage heap phase looked (scan_at scan part)) [
    | inl more ↦ rw more.0 (record { marks = marks; fragment_within = within; part_within = more.1; few_steps = few })
    | inr all ↦ rw all.0 (record { marks = marks; fragment_within = within; few_steps = omega (arith, below, few) })
  ]

fits_scan : (heap : Heap) (phase looked : ℕ) (scan : Scan) (next : ℕ) (target : Option ℕ) → IsScanning heap phase looked scan → scan.part < next → next ≤ 4
    → IsWithinHeap heap target → FitsStage heap phase looked (after_scan_load scan next target)
fits_scan heap phase looked scan next None here before below led =
    scan_stage_fits heap phase looked here.marks (scan_step scan) here.fragment_within next below (omega (arith, here.few_steps))
fits_scan heap phase looked scan next (Some target) here before below led = record {
  marks = here.marks;
  fragment_within = here.fragment_within;
  part_within = here.part_within;
  target_within = led;
  part_before = before;
  next_within = below;
  few_steps = omega (arith, here.few_steps);
}

-- a fragment's first word alone tells the length of an array
pub array_told : (part word : ℕ) → IfSome (array_at part word) (λ cells. (part ≡ 0) × (cells < 2 ^ 13))
array_told part word = elim (eqb_tells part 0) as (λ _. IfSome (array_at part word) (λ cells. (part ≡ 0) × (cells < 2 ^ 13))) [
  | inl first ↦ rw first.0 (on (array_length_of word) first.1 (array_length_is_small word))
  | inr later ↦ rw later.0 tt
]
  where
    on : (length : Option ℕ) → part ≡ 0 → IfSome length (λ cells. cells < 2 ^ 13) → IfSome length (λ cells. (part ≡ 0) × (cells < 2 ^ 13))
    on None first few = tt
    on (Some cells) first few = (first, few)

-- behind an array's meta the place of its spine comes
fits_first_load : (heap : Heap) (phase looked : ℕ) (scan : Scan) (length : Option ℕ) (next : ℕ) (target : Option ℕ) → IsScanning heap phase looked scan
    → IfSome length (λ cells. (scan.part ≡ 0) × (cells < 2 ^ 13)) → scan.part < next → next ≤ 4 → IsWithinHeap heap target → FitsStage heap phase looked (after_first_load scan length next target)
fits_first_load heap phase looked scan None next target here told before below led = fits_scan heap phase looked scan next target here before below led
fits_first_load heap phase looked scan (Some cells) next target here told before below led = record {
  marks = here.marks;
  fragment_within = here.fragment_within;
  words_few = omega (arith, told.1);
  first_step = omega (arith, here.few_steps, told.0);
}

pub stage_stands_at_scanning : (scan : Scan) → StageStands (stages.Scanning scan)
stage_stands_at_scanning scan heap collector limits fits scanning here =
    work_turn_stands heap (Turning (turning.ScanLoad scan.fragment scan.part))
    (λ word. record collector { stage = after_first_load scan (array_at scan.part word) (part_after scan.part word) (pointer_in scan.part word) })
    (load_step_stands heap (Turning (turning.ScanLoad scan.fragment scan.part)) refl (here.fragment_within, here.part_within))
    (λ word small led. let after = after_part scan.part word here.part_within in
    collector_fits_at_stage heap collector (after_first_load scan (array_at scan.part word) (part_after scan.part word) (pointer_in scan.part word)) fits
    (fits_first_load heap collector.phase collector.looked scan (array_at scan.part word) (part_after scan.part word) (pointer_in scan.part word) here (array_told scan.part word) after.0 after.1 led))
