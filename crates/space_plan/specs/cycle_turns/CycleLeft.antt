-- How many turns the collector makes at most up to the end of its cycle, whatever steps the seats make between, but for looks at seats that are behind.
use Rattle.std.specs.Prelude.{ℕ, ◌+◌, ◌-◌, ◌*◌, ◌%◌, if◌then◌else◌, List}
use Rattle.heap_model.specs.declared.heap.Heap.{Heap}
use Rattle.heap_model.specs.Limits.{group_fragments}
use Rattle.heap_model.specs.PhasePlan.{cycle_phases, clearing}
use Rattle.core_machine.specs.collector.Collector.{by_work}
use Rattle.core_machine.specs.declared.collector.stage.Stage.{Stage}
use Rattle.core_machine.specs.declared.collector.stage.Stage.TheVariants as stages
use Rattle.core_machine.specs.machine.Machine.{State}
use Rattle.core_machine.specs.machine.Sums.{sum_upto}
use Rattle.core_rule.specs.turns.TurnsLeft.{sweep_most, stage_left}
use Rattle.space_plan.specs.cycle_turns.CopyingLeft.{copying_left}
use Rattle.space_plan.specs.cycle_turns.MarkingLeft.{passes_left, scan_left}
use Rattle.space_plan.specs.cycle_turns.ToldWords.{told_words, fragments_unscanned, words_unscanned}

-- the most turns of a phase's work: of marking with the flip, of copying, of the sweep, of the clearing; in the others none
abbrev pub phase_work : ℕ → ℕ → ℕ
phase_work groups phase = by_work phase (group_fragments * groups * (groups + 12) + groups + 1) (81 * groups) (sweep_most * groups) groups 0

-- how many turns are left before the one with which the next phase begins or the cycle ends
abbrev pub left_in_phase : Heap → List ℕ → ℕ → ℕ → Stage → ℕ
left_in_phase heap words phase looked stages.Looking = heap.seats - looked + phase_work heap.groups phase
left_in_phase heap words phase looked (stages.Passing group found) = passes_left heap.groups (fragments_unscanned heap words) (words_unscanned heap words) group (if found then heap.groups else 0)
left_in_phase heap words phase looked (stages.Scanning scan) = scan_left heap words scan 0 (2 * (4 - scan.part) + 1)
left_in_phase heap words phase looked (stages.Shading scan target next) = scan_left heap words scan 0 (2 * (4 - scan.part))
left_in_phase heap words phase looked (stages.Addressing scan n) = scan_left heap words scan 0 2
left_in_phase heap words phase looked (stages.Indexing s) = scan_left heap words s.scan s.index 1
left_in_phase heap words phase looked (stages.Spreading s target) = scan_left heap words s.scan s.index 0
left_in_phase heap words phase looked (stages.Blackening scan) = scan_left heap words scan (told_words heap words scan.fragment) 1
left_in_phase heap words phase looked (stages.Copying stage) = copying_left heap words stage
left_in_phase heap words phase looked stage = stage_left heap words phase looked stage

-- the most turns of the phases of a cycle behind this one: a look at each seat, the phase's work, and the begin of the next one
abbrev pub phases_left : Heap → ℕ → ℕ
phases_left heap phase = sum_upto (clearing - phase % cycle_phases) (λ k. heap.seats + 1 + phase_work heap.groups (clearing - k))

-- how many turns are left up to the one that ends the cycle: in this phase, its last one, and those of each phase to come
abbrev pub cycle_left_at : Heap → List ℕ → ℕ → ℕ → Stage → ℕ
cycle_left_at heap words phase looked stage = left_in_phase heap words phase looked stage + 1 + phases_left heap phase

-- how many are left in a state
abbrev pub cycle_left : Heap → State → ℕ
cycle_left heap state = cycle_left_at heap state.words state.collector.phase state.collector.looked state.collector.stage
