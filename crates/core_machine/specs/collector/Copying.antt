-- How copying goes on: its visits to the marked fragments of each group, and the copies of the spines that it finds.
use Rattle.std.specs.Prelude.{ℕ, ◌+◌, ◌/◌, ◌%◌, ◌==◌, nat_lt, if◌then◌else◌, Option, Some, None}
use Rattle.heap_words.specs.declared.spot.Spot.{Spot}
use Rattle.heap_words.specs.Spot.{spot_in}
use Rattle.heap_model.specs.declared.heap.Heap.{Heap}
use Rattle.heap_model.specs.Needs.{array_words}
use Rattle.heap_model.specs.PhasePlan.{cycle_phases}
use Rattle.core_machine.specs.declared.collector.stage.ArrayAt.{ArrayAt}
use Rattle.core_machine.specs.declared.collector.stage.Copying.TheVariants as copying
use Rattle.core_machine.specs.declared.collector.stage.SpineCopy.{SpineCopy}
use Rattle.core_machine.specs.declared.collector.stage.Stage.{Stage}
use Rattle.core_machine.specs.declared.collector.stage.Stage.TheVariants as stages
use Rattle.core_machine.specs.declared.collector.stage.Visit.{Visit}
pub use Rattle.heap_words.specs.Control.{marked_bits_of, next_position_of}

-- the half that a cycle's flip leaves
abbrev pub left_half : ℕ → ℕ
left_half phase = phase / cycle_phases % 2

-- the half in which spines have their places from a cycle's flip to the next one's
abbrev pub next_half : ℕ → ℕ
next_half phase = (phase / cycle_phases + 1) % 2

-- copying goes on to the next group; behind the last one the phase is done
abbrev pub after_visited : Heap → ℕ → Stage
after_visited heap group = if nat_lt (group + 1) heap.groups then stages.Copying (copying.Visiting (group + 1)) else stages.Advancing

-- the next marked fragment is looked at; behind the last one copying goes on to the next group
abbrev pub after_seen : Heap → ℕ → ℕ → Option ℕ → Stage
after_seen heap group marked None = after_visited heap group
after_seen heap group marked (Some position) = stages.Copying (copying.Inspecting (record { group = group; marked = marked; position = position }))

-- a group's control word was found: its first marked fragment is looked at
abbrev pub after_visit : Heap → ℕ → ℕ → Stage
after_visit heap group word = after_seen heap group (marked_bits_of word) (next_position_of (marked_bits_of word) 0)

-- nothing is left to do at the fragment of the visit: the next one comes
abbrev pub visit_on : Heap → Visit → Stage
visit_on heap visit = after_seen heap visit.group visit.marked (next_position_of visit.marked (visit.position + 1))

-- the first word of a fragment was found: of an array, with so many cells, the name comes next
abbrev pub after_inspected : Heap → Visit → Option ℕ → Stage
after_inspected heap visit None = visit_on heap visit
after_inspected heap visit (Some cells) = stages.Copying (copying.Naming visit (array_words cells))

-- the place of the array's spine was found: where it stands in the half that was left, a copy gets its place
abbrev pub after_located : Heap → ℕ → ArrayAt → Spot → Stage
after_located heap phase array from = if from.half == left_half phase then stages.Copying (copying.Claiming array from) else visit_on heap array.visit

-- the copy comes to its next word; behind the last one it is whole
abbrev pub copy_at : SpineCopy → Stage
copy_at copy = if nat_lt copy.index copy.array.words then stages.Copying (copying.Loading copy) else stages.Copying (copying.Swinging copy)

-- where copying goes on once the copy has got its place
abbrev pub after_claimed : ArrayAt → Spot → ℕ → Stage
after_claimed array from found = copy_at (record { array = array; from = from; to = spot_in found; index = 0 })

-- where copying goes on once a word was copied
abbrev pub after_copied : SpineCopy → Stage
after_copied copy = copy_at (record copy { index = copy.index + 1 })
