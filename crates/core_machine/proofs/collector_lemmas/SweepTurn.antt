-- The sweep looks for what is dead in a group, looks at it, frees it and returns its spine words.
use Rattle.std.proofs.Common.{suc, ◌≡◌, ℕ, ◌+◌, ◌*◌, ◌^◌, ◌<◌, ◌≤◌, [], ◌∷◌, count_ones, Option, Some, None, length-append, refl, inl, inr, arith}
use Rattle.std.specs.Int.{bit_at}
use Rattle.std.specs.Prelude.{IfSome}
use Rattle.std.proofs.lemmas.Bool.Decides.{eqb_tells, leb_tells}
use Rattle.core_machine.proofs.Terms.{Frees, Returns, Heap, Turning, spine_words_in}
use Rattle.core_machine.specs.declared.collector.stage.Stage.TheVariants as stages
use Rattle.core_machine.specs.declared.step.TurningStep.TheVariants as turning
use Rattle.core_machine.specs.collector.Sweeping.{dead_bits_of, next_position_of, after_swept, after_examined, after_freed}
use Rattle.core_machine.specs.collector.FitsTurns.{FitsStage, IsSweeping}
use Rattle.core_machine.proofs.collector_lemmas.Standing.{StageStands, work_turn_stands, collector_fits_at_stage}
use Rattle.core_machine.proofs.table_lemmas.DeadBits.{dead_bits_within_group, next_position_has_bit, next_position_not_before}
use Rattle.core_machine.proofs.table_lemmas.Lengths.{spine_words_within_limit}
use Rattle.core_machine.proofs.table_lemmas.StepStands.{load_step_stands}
use Rattle.core_machine.proofs.table_lemmas.Wide.{and_fits_bits}

-- one more position tells of one spine more at most
more_words : (words more position : ℕ) → words ≤ 2048 * position → more ≤ 2048 → words + more ≤ 2048 * (position + 1)
more_words words more position few one = omega (arith, few, one)

module _ (heap : Heap) (phase looked group : ℕ) (sweeps : IsSweeping heap phase looked group) where
  -- the next group's turn comes, or the phase is done
  fits_swept : FitsStage heap phase looked (after_swept heap group)
  fits_swept = elim (leb_tells (suc (group + 1)) heap.groups) as (λ _. FitsStage heap phase looked (after_swept heap group)) [
    | inl more ↦ rw more.0 (record { all = sweeps.all; for_sweep = sweeps.for_sweep; group_within = more.1 })
    | inr last ↦ rw last.0 (record { all = sweeps.all; goes_on = λ clears. absurd (omega (arith, clears, sweeps.for_sweep)) })
  ]

  -- a dead fragment is looked at, or they are freed; each position before the next one has told of one spine at most
  fits_examined : (dead words from : ℕ) (position : Option ℕ) → dead < 2 ^ 16 → words ≤ 2048 * from → from ≤ 16 → IfSome position (λ i. (i < 16) × (bit_at dead i ≡ 1))
      → IfSome position (λ i. from ≤ i) → FitsStage heap phase looked (after_examined heap group dead words position)
  fits_examined dead words from (Some position) few told below is behind =
      record { sweeps = sweeps; dead_within = few; position_within = is.0; is_dead = is.1; words_few = omega (arith, told, behind) }
  fits_examined dead words from None few told below is behind = elim (eqb_tells dead 0) as (λ _. FitsStage heap phase looked (after_examined heap group dead words None)) [
    | inl none ↦ rw none.0 fits_swept
    | inr some ↦ rw some.0 (record { sweeps = sweeps; dead_within = few; some_dead = some.1; words_few = omega (arith, told, below) })
  ]

  -- their spine words are returned, where there are any
  fits_freed : (words : ℕ) → words ≤ 2048 * 16 → FitsStage heap phase looked (after_freed heap group words)
  fits_freed words few = elim (eqb_tells words 0) as (λ _. FitsStage heap phase looked (after_freed heap group words)) [
    | inl none ↦ rw none.0 fits_swept
    | inr some ↦ rw some.0 (record { sweeps = sweeps; some_words = some.1; words_few = few })
  ]

pub stage_stands_at_sweeping : (group : ℕ) → StageStands (stages.Sweeping group)
stage_stands_at_sweeping group heap collector limits fits sweeping here =
    work_turn_stands heap (Turning (turning.GroupLoad group)) (λ word. record collector { stage = after_examined heap group (dead_bits_of word) 0 (next_position_of (dead_bits_of word) 0) })
    (load_step_stands heap (Turning (turning.GroupLoad group)) refl here.group_within)
    (λ word small led. collector_fits_at_stage heap collector (after_examined heap group (dead_bits_of word) 0 (next_position_of (dead_bits_of word) 0)) fits
    (fits_examined heap collector.phase collector.looked group here (dead_bits_of word) 0 0 (next_position_of (dead_bits_of word) 0) (dead_bits_within_group word) (omega arith) (omega arith)
    (next_position_has_bit (dead_bits_of word) 0) (next_position_not_before (dead_bits_of word) 0)))

pub stage_stands_at_examining : (group dead position words : ℕ) → StageStands (stages.Examining group dead position words)
stage_stands_at_examining group dead position words heap collector limits fits examining here =
    work_turn_stands heap (Turning (turning.MetaLoad (16 * group + position))) (λ word. record collector { stage = after_examined heap group dead (words + spine_words_in word) (next_position_of dead (position + 1)) })
    (load_step_stands heap (Turning (turning.MetaLoad (16 * group + position))) refl (omega (arith, here.sweeps.group_within, here.position_within), omega arith))
    (λ word small led. collector_fits_at_stage heap collector (after_examined heap group dead (words + spine_words_in word) (next_position_of dead (position + 1))) fits
    (fits_examined heap collector.phase collector.looked group here.sweeps dead (words + spine_words_in word) (position + 1) (next_position_of dead (position + 1)) here.dead_within
    (more_words words (spine_words_in word) position here.words_few (spine_words_within_limit word)) (omega (arith, here.position_within)) (next_position_has_bit dead (position + 1)) (next_position_not_before dead (position + 1))))

pub stage_stands_at_freeing : (group dead words : ℕ) → StageStands (stages.Freeing group dead words)
stage_stands_at_freeing group dead words heap collector limits fits freeing here = record {
  step = record { in_table = here.sweeps.group_within; wide = λ found small. and_fits_bits found _ small; leads = λ found led. tt };
  fits = λ found small led may. record {
    phase_within = fits.phase_within;
    phase_told = omega (arith, fits.phase_told, length-append collector.log (Frees (count_ones dead) ∷ []));
    at_stage = fits_freed heap collector.phase collector.looked group here.sweeps words here.words_few;
  };
}

pub stage_stands_at_returning : (group words : ℕ) → StageStands (stages.Returning group words)
stage_stands_at_returning group words heap collector limits fits returning here = record {
  step = record { in_table = tt; wide = λ found small. omega arith; leads = λ found led. tt };
  fits = λ found small led may. record {
    phase_within = fits.phase_within;
    phase_told = omega (arith, fits.phase_told, length-append collector.log (Returns words ∷ []));
    at_stage = fits_swept heap collector.phase collector.looked group here.sweeps;
  };
}
