-- Each turn of the scan of an array's first fragment leaves fewer turns, where its spine has few words.
use Rattle.std.proofs.Common.{◌≡◌, ℕ, ◌+◌, ◌-◌, ◌/◌, ◌<◌, List, refl, subst, bit_or, arith}
use Rattle.heap_words.specs.Control.{shade_bit_of}
use Rattle.core_rule.proofs.Terms.{Heap, IsAddressing, IsIndexing, IsSpreading, Control, Word, Spine, payload_in, at, put, IsFewWords}
use Rattle.core_machine.specs.collector.Marking.{scan_step, spine_step, spine_scan_at, after_address, after_spread}
use Rattle.core_machine.specs.declared.collector.stage.Scan.{Scan}
use Rattle.core_machine.specs.declared.collector.stage.SpineScan.{SpineScan}
use Rattle.core_machine.specs.declared.collector.stage.Stage.TheVariants as stages
use Rattle.core_machine.proofs.collector_lemmas.SpineTurns.{spine_scan_cases}
use Rattle.core_machine.proofs.table_lemmas.Addresses.{put_of_read_changes_nothing}
use Rattle.core_rule.specs.turns.TurnsLeft.{marking_left, scanning_left, stage_left}
use Rattle.core_rule.proofs.turns.Lefts.{StageLeavesFewer, fewer_turns_left_at_stage}
use Rattle.core_rule.proofs.turns.MarkingTurns.{scan_step_leaves_less, scanned_count_same_after_shade}

-- wherever it goes on, a step more is made
spine_at_leaves : (heap : Heap) (phase looked : ℕ) (words : List ℕ) (scan : Scan) (s : SpineScan) → s.scan ≡ scan_step scan → scan.steps < 2051
    → stage_left heap words phase looked (spine_scan_at s) < scanning_left heap words scan
spine_at_leaves heap phase looked words scan s made few =
    let less : scanning_left heap words s.scan < scanning_left heap words scan = rw made (scan_step_leaves_less heap phase looked words scan few) in
    spine_scan_cases (λ stage. stage_left heap words phase looked stage < scanning_left heap words scan) s (λ more. less) (λ done. less)

pub address_leaves_fewer : (scan : Scan) (spine_words : ℕ) → StageLeavesFewer (stages.Addressing scan spine_words)
address_leaves_fewer scan spine_words heap state book rule addressing stepped =
    let fits : IsAddressing heap state.collector.phase state.collector.looked scan spine_words = rw addressing at rule.machine.collector_fit.at_stage in
    let word : ℕ = at heap state.words (Word scan.fragment 2) in
    rw (put_of_read_changes_nothing heap state.words (Word scan.fragment 2))
    (fewer_turns_left_at_stage heap state (stages.Addressing scan spine_words) state.words state.collector.looked (after_address scan spine_words word) addressing
    (spine_at_leaves heap state.collector.phase state.collector.looked state.words scan _ refl (omega (arith, fits.first_step))))

pub index_leaves_fewer : (s : SpineScan) → IsFewWords (stages.Indexing s) → StageLeavesFewer (stages.Indexing s)
index_leaves_fewer s few heap state book rule indexing stepped =
    let fits : IsIndexing heap state.collector.phase state.collector.looked s = rw indexing at rule.machine.collector_fit.at_stage in
    let word : ℕ = at heap state.words (Spine s.spine.half (s.spine.offset + s.index)) in
    rw (put_of_read_changes_nothing heap state.words (Spine s.spine.half (s.spine.offset + s.index)))
    (fewer_turns_left_at_stage heap state (stages.Indexing s) state.words state.collector.looked (stages.Spreading (spine_step s) (payload_in word)) indexing
    (scan_step_leaves_less heap state.collector.phase state.collector.looked state.words s.scan (omega (arith, fits.steps_made, fits.on.index_within, few))))

pub spread_leaves_fewer : (s : SpineScan) (target : ℕ) → IsFewWords (stages.Spreading s target) → StageLeavesFewer (stages.Spreading s target)
spread_leaves_fewer s target few heap state book rule spreading stepped =
    let fits : IsSpreading heap state.collector.phase state.collector.looked s target = rw spreading at rule.machine.collector_fit.at_stage in
    let now : List ℕ = put heap state.words (Control (target / 16)) (bit_or (at heap state.words (Control (target / 16))) (shade_bit_of target)) in
    fewer_turns_left_at_stage heap state (stages.Spreading s target) now state.collector.looked (after_spread s) spreading
    (subst (λ n. stage_left heap now state.collector.phase state.collector.looked (after_spread s) < marking_left heap.groups (n + 1) (2051 - s.scan.steps) (s.scan.fragment / 16) (heap.groups + 1) + 1)
    (scanned_count_same_after_shade heap state book rule target fits.target_within)
    (spine_at_leaves heap state.collector.phase state.collector.looked now s.scan _ refl (omega (arith, fits.steps_made, fits.on.index_within, few))))
