-- How marking goes on: its passes over the groups, and the scans of what they find.
use Rattle.std.specs.Prelude.{ℕ, ◌+◌, ◌*◌, ◌==◌, nat_lt, Bool, true, false, if◌then◌else◌, Option, Some, None}
use Rattle.heap_words.specs.Spot.{spot_in}
use Rattle.heap_model.specs.declared.heap.Heap.{Heap}
use Rattle.heap_model.specs.Limits.{group_fragments}
use Rattle.heap_model.specs.Needs.{array_words}
use Rattle.core_machine.specs.declared.collector.stage.Scan.{Scan}
use Rattle.core_machine.specs.declared.collector.stage.SpineScan.{SpineScan}
use Rattle.core_machine.specs.declared.collector.stage.Stage.{Stage}
use Rattle.core_machine.specs.declared.collector.stage.Stage.TheVariants as stages
use Rattle.heap_words.specs.Loaded.{is_meta, array_length_of}
pub use Rattle.heap_words.specs.Control.{lowest_grey_of}

-- behind the last group another pass begins where this one found something; else marking has ended, and the flip comes
abbrev pub after_last_group : Bool → Stage
after_last_group true = stages.Passing 0 false
after_last_group false = stages.Flipping

-- the pass goes on to the next group
abbrev pub after_group : Heap → ℕ → Bool → Stage
after_group heap group found = if nat_lt (group + 1) heap.groups then stages.Passing (group + 1) found else after_last_group found

-- a group's grey fragment is scanned, where it has one; else the pass goes on
abbrev pub after_pass : Heap → ℕ → Bool → Option ℕ → Stage
after_pass heap group found None = after_group heap group found
after_pass heap group found (Some position) = stages.Scanning (record { fragment = group_fragments * group + position; part = 0; steps = 0 })

-- the word that is scanned after this one, where that was found: behind a meta the name is passed over
abbrev pub part_after : ℕ → ℕ → ℕ
part_after part word = if part == 0 then (if is_meta word then 2 else 1) else part + 1

-- the scan with one more step made
abbrev pub scan_step : Scan → Scan
scan_step scan = record scan { steps = scan.steps + 1 }

-- the scan comes to this word of its fragment; behind the fourth one the fragment is to be blackened
abbrev pub scan_at : Scan → ℕ → Stage
scan_at scan part = if nat_lt part 4 then stages.Scanning (record scan { part = part }) else stages.Blackening (record scan { part = part })

-- a word was loaded: what it leads to is marked before the scan goes on
abbrev pub after_scan_load : Scan → ℕ → Option ℕ → Stage
after_scan_load scan next None = scan_at (scan_step scan) next
after_scan_load scan next (Some target) = stages.Shading (scan_step scan) target next

-- the length of an array, where the word that was found is its meta, a fragment's first word
abbrev pub array_at : ℕ → ℕ → Option ℕ
array_at part word = if part == 0 then array_length_of word else None

-- a word was found: where it is an array's meta the place of its spine comes next
abbrev pub after_first_load : Scan → Option ℕ → ℕ → Option ℕ → Stage
after_first_load scan None next target = after_scan_load scan next target
after_first_load scan (Some cells) next target = stages.Addressing (scan_step scan) (array_words cells)

-- the scan of a spine with one more step made
abbrev pub spine_step : SpineScan → SpineScan
spine_step s = record s { scan = scan_step s.scan }

-- the scan comes to its next spine word; behind the last one the fragment is to be blackened
abbrev pub spine_scan_at : SpineScan → Stage
spine_scan_at s = if nat_lt s.index s.words then stages.Indexing s else stages.Blackening s.scan

-- the place of the spine was found: its words are scanned from the first on
abbrev pub after_address : Scan → ℕ → ℕ → Stage
after_address scan words found = spine_scan_at (record { scan = scan_step scan; spine = spot_in found; words = words; index = 0 })

-- what a spine word names was marked: the scan goes on to the next word
abbrev pub after_spread : SpineScan → Stage
after_spread s = spine_scan_at (record (spine_step s) { index = s.index + 1 })
