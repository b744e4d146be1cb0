-- The fragment to which a scanned one leads is marked.
use Rattle.std.proofs.Common.{ℕ, arith}
use Rattle.core_machine.specs.declared.collector.stage.Scan.{Scan}
use Rattle.core_machine.specs.declared.collector.stage.Stage.TheVariants as stages
use Rattle.core_machine.proofs.Terms.{Turning}
use Rattle.core_machine.specs.declared.step.TurningStep.TheVariants as turning
use Rattle.core_machine.specs.collector.Marking.{scan_step, scan_at}
use Rattle.core_machine.proofs.collector_lemmas.ScanTurn.{scan_stage_fits}
use Rattle.core_machine.proofs.collector_lemmas.Standing.{StageStands, work_turn_stands, collector_fits_at_stage}
use Rattle.core_machine.proofs.table_lemmas.Wide.{shade_word_fits_bits}

pub stage_stands_at_shading : (scan : Scan) (target next : ℕ) → StageStands (stages.Shading scan target next)
stage_stands_at_shading scan target next heap collector limits fits shading here =
    work_turn_stands heap (Turning (turning.MarkShade target)) (λ word. record collector { stage = scan_at (scan_step scan) next })
    record { in_table = omega (arith, here.target_within); wide = λ found small. shade_word_fits_bits target found small; leads = λ found led. tt }
    (λ word small led. collector_fits_at_stage heap collector (scan_at (scan_step scan) next) fits
    (scan_stage_fits heap collector.phase collector.looked here.marks (scan_step scan) here.fragment_within next here.next_within (omega (arith, here.few_steps, here.part_before))))
