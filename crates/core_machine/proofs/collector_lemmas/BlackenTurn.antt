-- A fragment is told to be scanned.
use Rattle.std.proofs.Common.{◌/◌, true, arith}
use Rattle.core_machine.specs.declared.collector.stage.Scan.{Scan}
use Rattle.core_machine.specs.declared.collector.stage.Stage.TheVariants as stages
use Rattle.core_machine.proofs.Terms.{Turning}
use Rattle.core_machine.specs.declared.step.TurningStep.TheVariants as turning
use Rattle.core_machine.proofs.collector_lemmas.Standing.{StageStands, work_turn_stands, collector_fits_at_stage}
use Rattle.core_machine.proofs.table_lemmas.Wide.{blacken_word_fits_bits}

pub stage_stands_at_blackening : (scan : Scan) → StageStands (stages.Blackening scan)
stage_stands_at_blackening scan heap collector limits fits blackening here =
    work_turn_stands heap (Turning (turning.Blacken scan.fragment)) (λ word. record collector { stage = stages.Passing (scan.fragment / 16) true })
    record { in_table = omega (arith, here.fragment_within); wide = λ found small. blacken_word_fits_bits scan.fragment found small; leads = λ found led. tt }
    (λ word small led. collector_fits_at_stage heap collector (stages.Passing (scan.fragment / 16) true) fits record { marks = here.marks; group_within = omega (arith, here.fragment_within) })
