-- How many turns the collector makes at most up to the end of its cycle, where no seat makes a step between and it waits for none.
use Rattle.std.specs.Prelude.{◌≡◌, ℕ, ◌+◌, ◌-◌, ◌*◌, ◌/◌, ◌%◌, ◌<◌, Bool, if◌then◌else◌, List}
use Rattle.std.specs.Int.{bit_at}
use Rattle.heap_words.specs.Control.{scanned_at}
use Rattle.heap_model.specs.declared.calls.collector_calls.Turn.TheVariants.{Stepped}
use Rattle.heap_model.specs.declared.heap.Heap.{Heap}
use Rattle.heap_model.specs.Limits.{group_fragments}
use Rattle.heap_model.specs.PhasePlan.{cycle_phases, clearing}
use Rattle.core_machine.specs.collector.Collector.{by_work, next_turn}
use Rattle.core_machine.specs.declared.collector.stage.Copying.{Copying}
use Rattle.core_machine.specs.declared.collector.stage.Copying.TheVariants as copying
use Rattle.core_machine.specs.declared.collector.stage.Scan.{Scan}
use Rattle.core_machine.specs.declared.collector.stage.Visit.{Visit}
use Rattle.core_machine.specs.declared.collector.stage.Stage.{Stage}
use Rattle.core_machine.specs.declared.collector.stage.Stage.TheVariants as stages
use Rattle.core_machine.specs.machine.Machine.{State, found_by, Turns, state_after}
use Rattle.core_machine.specs.machine.Sums.{sum_upto}
use Rattle.core_rule.specs.Book.{Book}
use Rattle.core_rule.specs.words.ControlWords.{control_of}
use Rattle.core_rule.specs.Rule.{Rule}

-- how many of the heap's fragments are scanned
abbrev pub scanned_count : Heap → List ℕ → ℕ
scanned_count heap words = sum_upto (group_fragments * heap.groups) (λ f. bit_at (control_of heap words f) (scanned_at f))

-- the most steps of a scan, that of the largest array: two loads, two steps for each of 1,024 spine words, and the blackening
abbrev pub scan_most : ℕ
scan_most = 2051

-- the most turns that are made for one fragment: those of its scan, and those of another pass over all groups
abbrev pub fragment_most : ℕ → ℕ
fragment_most groups = groups + 2060

-- a pass that has found something is followed by another one
abbrev pub next_pass : ℕ → Bool → ℕ
next_pass groups found = if found then groups + 1 else 0

-- what is left of marking: for fragments not seen yet, the scan under way, the groups from this one on, and a next pass
abbrev pub marking_left : ℕ → ℕ → ℕ → ℕ → ℕ → ℕ
marking_left groups seen scan group again = (group_fragments * groups - seen) * fragment_most groups + scan + (groups - group) + again

-- what is left of marking and the flip while a fragment is scanned, which counts as seen, and whose pass has found something
abbrev pub scanning_left : Heap → List ℕ → Scan → ℕ
scanning_left heap words scan =
    marking_left heap.groups (scanned_count heap words + 1) (scan_most - scan.steps) (scan.fragment / group_fragments) (heap.groups + 1) + 1

-- the most turns of a visit to a marked fragment: three loads, a place, two turns for each of 1,024 spine words, and the swing
abbrev pub copy_most : ℕ
copy_most = 2053

-- the most turns for one group of copying: its word is loaded, and each of its sixteen fragments may be marked
abbrev pub visit_most : ℕ
visit_most = 1 + group_fragments * copy_most

-- what is left of copying where a visit comes to its fragment
abbrev pub visit_left : ℕ → Visit → ℕ
visit_left groups visit = visit_most * (groups - (visit.group + 1)) + copy_most * (group_fragments - visit.position)

-- what is left at each stage of copying
abbrev pub copying_left : ℕ → Copying → ℕ
copying_left groups (copying.Visiting group) = visit_most * (groups - group)
copying_left groups (copying.Inspecting visit) = visit_left groups visit
copying_left groups (copying.Naming visit words) = visit_left groups visit - 1
copying_left groups (copying.Locating array) = visit_left groups array.visit - 2
copying_left groups (copying.Claiming array from) = visit_left groups array.visit - 3
copying_left groups (copying.Loading copy) = visit_left groups copy.array.visit - (4 + 2 * copy.index)
copying_left groups (copying.Storing copy word) = visit_left groups copy.array.visit - (5 + 2 * copy.index)
copying_left groups (copying.Swinging copy) = visit_left groups copy.array.visit - (4 + 2 * copy.index)

-- the most turns for one group of the sweep: its word, each of sixteen fragments, their freeing, and the return of spine words
abbrev pub sweep_most : ℕ
sweep_most = 19

-- the most turns of a phase's work: of marking with the flip, of copying, of the sweep, of the clearing; in the others none
abbrev pub work_most : ℕ → ℕ → ℕ
work_most groups phase = by_work phase (group_fragments * groups * fragment_most groups + groups + 1) (visit_most * groups) (sweep_most * groups) groups 0

-- how many turns are left before the one with which the next phase begins or the cycle ends
abbrev pub stage_left : Heap → List ℕ → ℕ → ℕ → Stage → ℕ
stage_left heap words phase looked stages.Looking = heap.seats - looked + work_most heap.groups phase
stage_left heap words phase looked (stages.Passing group found) = marking_left heap.groups (scanned_count heap words) 0 group (next_pass heap.groups found) + 1
stage_left heap words phase looked (stages.Scanning scan) = scanning_left heap words scan
stage_left heap words phase looked (stages.Shading scan target next) = scanning_left heap words scan
stage_left heap words phase looked (stages.Addressing scan spine_words) = scanning_left heap words scan
stage_left heap words phase looked (stages.Indexing s) = scanning_left heap words s.scan
stage_left heap words phase looked (stages.Spreading s target) = scanning_left heap words s.scan
stage_left heap words phase looked (stages.Blackening scan) = scanning_left heap words scan
stage_left heap words phase looked stages.Flipping = 1
stage_left heap words phase looked (stages.Copying stage) = copying_left heap.groups stage
stage_left heap words phase looked (stages.Sweeping group) = sweep_most * (heap.groups - group)
stage_left heap words phase looked (stages.Examining group dead position counted) = sweep_most * (heap.groups - group) - (position + 1)
stage_left heap words phase looked (stages.Freeing group dead counted) = sweep_most * (heap.groups - group) - group_fragments - 1
stage_left heap words phase looked (stages.Returning group counted) = sweep_most * (heap.groups - group) - group_fragments - 2
stage_left heap words phase looked (stages.Clearing group kept) = heap.groups - group
stage_left heap words phase looked (stages.Ending kept) = 0
stage_left heap words phase looked stages.Advancing = 0

-- no phase has more turns than this: a look at each seat, what a phase is for, and the begin of the next one
abbrev pub phase_most : Heap → ℕ
phase_most heap = heap.seats + group_fragments * heap.groups * fragment_most heap.groups + sweep_most * heap.groups + 1

-- how many turns are left before the one that ends the cycle: what is left of this phase, and the most of each one to come
abbrev pub turns_left_at : Heap → List ℕ → ℕ → ℕ → Stage → ℕ
turns_left_at heap words phase looked stage = (clearing - phase % cycle_phases) * phase_most heap + stage_left heap words phase looked stage

-- how many are left in a state
abbrev pub turns_left : Heap → State → ℕ
turns_left heap state = turns_left_at heap state.words state.collector.phase state.collector.looked state.collector.stage

-- a turn that neither waits nor ends a cycle leaves fewer turns
abbrev pub EachTurnLeavesFewer : Type 0
EachTurnLeavesFewer = (heap : Heap) (state : State) (book : Book) → Rule heap state book
    → (next_turn heap state.collector).answer (found_by heap state (next_turn heap state.collector).step) ≡ Stepped
    → turns_left heap (state_after heap state Turns) < turns_left heap state
