-- A cycle ends, and the next phase begins.
use Rattle.std.proofs.Common.{ℕ, ◌/◌, arith}
use Rattle.core_machine.proofs.Terms.{Ends}
use Rattle.core_machine.specs.declared.collector.stage.Stage.TheVariants as stages
use Rattle.core_machine.proofs.collector_lemmas.Standing.{StageStands, collector_fits_at_begin}

pub stage_stands_at_ending : (kept : ℕ) → StageStands (stages.Ending kept)
stage_stands_at_ending kept heap collector limits fits ending here = record {
  step = record { in_table = tt; wide = λ found small. omega (arith, fits.phase_within); leads = λ found led. tt };
  fits = λ found small led may. collector_fits_at_begin heap collector (Ends (collector.phase / 7) kept) limits fits may;
}
