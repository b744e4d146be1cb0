-- The next phase of a cycle begins.
use Rattle.std.proofs.Common.{◌+◌, arith}
use Rattle.core_machine.proofs.Terms.{Advance}
use Rattle.core_machine.specs.declared.collector.stage.Stage.TheVariants as stages
use Rattle.core_machine.proofs.collector_lemmas.Standing.{StageStands, collector_fits_at_begin}

pub stage_stands_at_advancing : StageStands stages.Advancing
stage_stands_at_advancing heap collector limits fits advancing is = record {
  step = record { in_table = tt; wide = λ found small. omega (arith, fits.phase_within); leads = λ found led. tt };
  fits = λ found small led may. collector_fits_at_begin heap collector (Advance (collector.phase + 1)) limits fits may;
}
