-- The turns of marking.
use Rattle.std.specs.Prelude.{ℕ, ◌+◌, ◌/◌, Bool, true}
use Rattle.heap_model.specs.declared.heap.Heap.{Heap}
use Rattle.heap_model.specs.Limits.{group_fragments}
use Rattle.core_machine.specs.declared.collector.stage.Scan.{Scan}
use Rattle.core_machine.specs.declared.collector.stage.SpineScan.{SpineScan}
use Rattle.core_machine.specs.declared.collector.stage.Stage.TheVariants as stages
use Rattle.core_machine.specs.declared.step.Step.TheVariants.{Turning, Spine}
use Rattle.core_machine.specs.declared.step.SpineStep.TheVariants.{AddressLoad, WordLoad}
use Rattle.core_machine.specs.declared.step.TurningStep.TheVariants as turning
use Rattle.core_machine.specs.collector.Marking.{lowest_grey_of, after_pass, part_after, scan_step, scan_at, array_at, after_first_load, spine_step, after_address, after_spread}
use Rattle.core_machine.specs.collector.TurnMove.{Collector, TurnMove, work_turn}
use Rattle.heap_words.specs.Loaded.{pointer_in, payload_in}

-- a group's control word is loaded
abbrev pub pass_turn : Heap → Collector → ℕ → Bool → TurnMove
pass_turn heap collector group found =
    work_turn (Turning (turning.GroupLoad group)) (λ word. record collector { stage = after_pass heap group found (lowest_grey_of word) })

-- a word of the fragment is loaded
abbrev pub scan_turn : Collector → Scan → TurnMove
scan_turn collector scan =
    work_turn (Turning (turning.ScanLoad scan.fragment scan.part))
    (λ word. record collector { stage = after_first_load scan (array_at scan.part word) (part_after scan.part word) (pointer_in scan.part word) })

-- what that word led to is marked
abbrev pub shade_turn : Collector → Scan → ℕ → ℕ → TurnMove
shade_turn collector scan target next =
    work_turn (Turning (turning.MarkShade target)) (λ word. record collector { stage = scan_at (scan_step scan) next })

-- the place of the array's spine is loaded
abbrev pub address_turn : Collector → Scan → ℕ → TurnMove
address_turn collector scan words =
    work_turn (Spine (AddressLoad scan.fragment)) (λ word. record collector { stage = after_address scan words word })

-- a spine word is loaded
abbrev pub index_turn : Collector → SpineScan → TurnMove
index_turn collector s =
    work_turn (Spine (WordLoad s.spine.half (s.spine.offset + s.index)))
    (λ word. record collector { stage = stages.Spreading (spine_step s) (payload_in word) })

-- the fragment that it names is marked
abbrev pub spread_turn : Collector → SpineScan → ℕ → TurnMove
spread_turn collector s target =
    work_turn (Turning (turning.MarkShade target)) (λ word. record collector { stage = after_spread s })

-- the fragment is blackened, and the pass looks at its group again
abbrev pub blacken_turn : Collector → Scan → TurnMove
blacken_turn collector scan =
    work_turn (Turning (turning.Blacken scan.fragment)) (λ word. record collector { stage = stages.Passing (scan.fragment / group_fragments) true })
