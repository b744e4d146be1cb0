-- A scan goes on with few spine words, and ends with few steps.
use Rattle.std.proofs.Common.{◌≡◌, ℕ, ◌+◌, ◌*◌, ◌≤◌, arith}
use Rattle.core_machine.specs.collector.Marking.{scan_at, spine_scan_at}
use Rattle.core_machine.specs.declared.collector.stage.Scan.{Scan}
use Rattle.core_machine.specs.declared.collector.stage.SpineScan.{SpineScan}
use Rattle.core_machine.proofs.collector_lemmas.SpineTurns.{spine_scan_cases}
use Rattle.core_rule.proofs.Terms.{IsFewWords}
use Rattle.core_rule.proofs.marking.Scans.{scan_cases}

-- a scan of four words makes eight steps at most
pub scan_has_few_words : (scan : Scan) (part : ℕ) → scan.steps ≤ 8 → IsFewWords (scan_at scan part)
scan_has_few_words scan part few = scan_cases IsFewWords scan part tt (λ behind. omega (arith, few))

-- a scan of a spine makes two steps before its first word, and two for each one
pub spine_scan_has_few_words : (s : SpineScan) → s.words ≤ 1024 → s.index ≤ s.words → s.scan.steps ≡ 2 + 2 * s.index → IsFewWords (spine_scan_at s)
spine_scan_has_few_words s few below made = spine_scan_cases IsFewWords s (λ more. few) (λ done. omega (arith, made, below, few))
