-- The next spine's place moves into the other half, and spines are copied there.
use Rattle.std.specs.Int.{bit_at}
use Rattle.std.specs.Prelude.{IfSome}
use Rattle.std.proofs.Common.{suc, ◌≡◌, ℕ, ◌+◌, ◌*◌, ◌/◌, ◌%◌, ◌^◌, ◌<◌, Option, Some, None, length-append, refl, inl, inr, arith}
use Rattle.std.proofs.lemmas.Bool.Decides.{eqb_tells, leb_tells}
use Rattle.heap_words.specs.declared.spot.Spot.{Spot}
use Rattle.heap_words.specs.Control.{marked_bits_of, next_position_of}
use Rattle.heap_words.specs.Spot.{spot_in}
use Rattle.core_machine.proofs.Terms.{Heap, IsHeap, array_length_of, FoundPointsWithin, FitsSpot, address_of}
use Rattle.core_machine.specs.declared.collector.stage.ArrayAt.{ArrayAt}
use Rattle.core_machine.specs.declared.collector.stage.Copying.{Copying}
use Rattle.core_machine.specs.declared.collector.stage.Copying.TheVariants as copying
use Rattle.core_machine.specs.declared.collector.stage.SpineCopy.{SpineCopy}
use Rattle.core_machine.specs.declared.collector.stage.Stage.TheVariants as stages
use Rattle.core_machine.specs.declared.collector.stage.Visit.{Visit}
use Rattle.core_machine.specs.declared.step.CopyingStep.TheVariants.{FlipStore}
use Rattle.core_machine.specs.declared.step.Step.TheVariants as steps
use Rattle.core_machine.specs.collector.Copying.{next_half, after_visited, after_seen, after_visit, visit_on, after_inspected, after_located, copy_at}
use Rattle.core_machine.specs.collector.CopyingTurns.{visited, copying_step, after_copying, copying_adds}
use Rattle.core_machine.specs.collector.FitsTurns.{IsCopying, FitsVisit, FitsArrayAt, FitsCopy, FitsCopying, FitsStage}
use Rattle.core_machine.proofs.collector_lemmas.SpineTurns.{told_spot_fits}
use Rattle.core_machine.proofs.collector_lemmas.Standing.{StageStands, work_turn_stands, collector_fits_at_stage}
use Rattle.core_machine.proofs.table_lemmas.DeadBits.{next_position_has_bit}
use Rattle.core_machine.proofs.table_lemmas.Leading.{spot_leads_within_heap}
use Rattle.core_machine.proofs.table_lemmas.Lengths.{array_length_is_small}
use Rattle.core_machine.proofs.table_lemmas.StepStands.{StepStands, load_step_stands}

pub stage_stands_at_flipping : StageStands stages.Flipping
stage_stands_at_flipping heap collector limits fits flipping here =
    work_turn_stands heap (steps.Copying (FlipStore (next_half collector.phase))) (λ word. record collector { stage = stages.Advancing })
    record { in_table = tt; wide = λ found small. omega arith; leads = λ found led. tt }
    (λ word small led. collector_fits_at_stage heap collector stages.Advancing fits (record { all = here.all; goes_on = λ last. absurd (omega (arith, last, here.for_marking)) }))

module _ (heap : Heap) (phase looked : ℕ) (copies : IsCopying heap.seats phase looked) where
  -- the next group's turn comes, or the phase is done
  fits_visited : (group : ℕ) → FitsStage heap phase looked (after_visited heap group)
  fits_visited group = elim (leb_tells (suc (group + 1)) heap.groups) as (λ _. FitsStage heap phase looked (after_visited heap group)) [
    | inl more ↦ rw more.0 (copies, more.1)
    | inr last ↦ rw last.0 (record { all = copies.all; goes_on = λ clears. absurd (omega (arith, clears, copies.for_copying)) })
  ]

  -- a marked fragment is looked at, or the group is done
  fits_seen : (group marked : ℕ) (position : Option ℕ) → group < heap.groups → marked < 2 ^ 16 → IfSome position (λ i. (i < 16) × (bit_at marked i ≡ 1))
      → FitsStage heap phase looked (after_seen heap group marked position)
  fits_seen group marked None within few is = fits_visited group
  fits_seen group marked (Some position) within few is = (copies, record { group_within = within; marked_within = few; position_within = is.0; is_marked = is.1 })

  fits_visit : (group word : ℕ) → group < heap.groups → FitsStage heap phase looked (after_visit heap group word)
  fits_visit group word within = fits_seen group (marked_bits_of word) (next_position_of (marked_bits_of word) 0) within (omega arith) (next_position_has_bit (marked_bits_of word) 0)

  fits_on : (visit : Visit) → FitsVisit heap visit → FitsStage heap phase looked (visit_on heap visit)
  fits_on visit there = fits_seen visit.group visit.marked (next_position_of visit.marked (visit.position + 1)) there.group_within there.marked_within (next_position_has_bit visit.marked (visit.position + 1))

  -- behind an array's meta its name comes
  fits_inspected : (visit : Visit) (length : Option ℕ) → FitsVisit heap visit → IfSome length (λ cells. cells < 2 ^ 13) → FitsStage heap phase looked (after_inspected heap visit length)
  fits_inspected visit None there few = fits_on visit there
  fits_inspected visit (Some cells) there few = (copies, (there, omega (arith, few)))

  -- a spine in the half that was left is copied
  fits_located : (array : ArrayAt) (from : Spot) → FitsArrayAt heap array → FitsSpot from → FitsStage heap phase looked (after_located heap phase array from)
  fits_located array from is spot = elim (eqb_tells from.half (phase / 7 % 2)) as (λ _. FitsStage heap phase looked (after_located heap phase array from)) [
    | inl left ↦ rw left.0 (copies, (is, spot))
    | inr there ↦ rw there.0 (fits_on array.visit is.there)
  ]

  -- the copy comes to a word, or is whole
  fits_copy : (copy : SpineCopy) → FitsCopy heap copy → FitsStage heap phase looked (copy_at copy)
  fits_copy copy is = elim (leb_tells (suc copy.index) copy.array.words) as (λ _. FitsStage heap phase looked (copy_at copy)) [
    | inl more ↦ rw more.0 (copies, (is, more.1))
    | inr whole ↦ rw whole.0 (copies, (is, omega (arith, whole.1, is.index_within)))
  ]

-- the fragment of a visit is one of the heap's
visited_within : (heap : Heap) (visit : Visit) → FitsVisit heap visit → visited visit < 16 * heap.groups
visited_within heap visit there = omega (arith, there.group_within, there.position_within)

-- what copying does at a stage: its step stands, and where it goes on fits
record CopyingStands (heap : Heap) (phase looked : ℕ) (stage : Copying) : Type 0 where
  step : StepStands heap (copying_step stage)
  fits : (found : ℕ) → found < 2 ^ 64 → FoundPointsWithin heap (address_of (copying_step stage)) found → FitsStage heap phase looked (after_copying heap phase stage found)

stage_stands : (heap : Heap) (phase looked : ℕ) (stage : Copying) → IsHeap heap → IsCopying heap.seats phase looked → FitsCopying heap stage → CopyingStands heap phase looked stage
stage_stands heap phase looked (copying.Visiting group) limits copies here =
    record { step = load_step_stands heap _ refl here; fits = λ found small led. fits_visit heap phase looked copies group found here }
stage_stands heap phase looked (copying.Inspecting visit) limits copies here = record {
  step = load_step_stands heap _ refl (visited_within heap visit here, omega arith);
  fits = λ found small led. fits_inspected heap phase looked copies visit (array_length_of found) here (array_length_is_small found);
}
stage_stands heap phase looked (copying.Naming visit words) limits copies here = record {
  step = load_step_stands heap _ refl (visited_within heap visit here.0, omega arith);
  fits = λ found small led. (copies, record { there = here.0; words_few = here.1 });
}
stage_stands heap phase looked (copying.Locating array) limits copies here = record {
  step = load_step_stands heap _ refl (visited_within heap array.visit here.there, omega arith);
  fits = λ found small led. fits_located heap phase looked copies array (spot_in found) here (told_spot_fits found);
}
stage_stands heap phase looked (copying.Claiming array from) limits copies here = record {
  step = record { in_table = tt; wide = λ found small. omega arith; leads = λ found led. tt };
  fits = λ found small led. fits_copy heap phase looked copies _ record { array_fits = here.0; from_within = here.1; to_within = told_spot_fits found; index_within = omega arith };
}
stage_stands heap phase looked (copying.Loading copy) limits copies here = record {
  step = load_step_stands heap _ refl here.0.from_within.half_within;
  fits = λ found small led. (copies, record { copies = here.0; more = here.1; names = led; wide = small });
}
stage_stands heap phase looked (copying.Storing copy word) limits copies here = record {
  step = record { in_table = here.copies.to_within.half_within; wide = λ found small. here.wide; leads = λ found led. here.names };
  fits = λ found small led. fits_copy heap phase looked copies _ record {
    array_fits = here.copies.array_fits;
    from_within = here.copies.from_within;
    to_within = here.copies.to_within;
    index_within = omega (arith, here.more);
  };
}
stage_stands heap phase looked (copying.Swinging copy) limits copies here = record {
  step = record {
    in_table = (visited_within heap copy.array.visit here.0.array_fits.there, omega arith);
    wide = λ found small. omega (arith, here.0.to_within.half_within, here.0.to_within.offset_within);
    leads = λ found led. spot_leads_within_heap heap copy.to here.0.to_within;
  };
  fits = λ found small led. fits_on heap phase looked copies copy.array.visit here.0.array_fits.there;
}

pub stage_stands_at_copying : (stage : Copying) → StageStands (stages.Copying stage)
stage_stands_at_copying stage heap collector limits fits copies here =
    let stands = stage_stands heap collector.phase collector.looked stage limits here.0 here.1 in
    record {
      step = stands.step;
      fits = λ found small led may. record {
        phase_within = fits.phase_within;
        phase_told = omega (arith, fits.phase_told, length-append collector.log (copying_adds stage));
        at_stage = stands.fits found small led;
      };
    }
