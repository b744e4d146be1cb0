-- How the sweep and the clearing of marks go on from group to group.
use Rattle.std.specs.Prelude.{ℕ, ◌+◌, ◌==◌, nat_lt, if◌then◌else◌, Option, Some, None}
use Rattle.heap_model.specs.declared.heap.Heap.{Heap}
use Rattle.core_machine.specs.declared.collector.stage.Stage.{Stage}
use Rattle.core_machine.specs.declared.collector.stage.Stage.TheVariants as stages
pub use Rattle.heap_words.specs.Control.{dead_bits_of, next_position_of, taken_count_of}

-- the sweep goes on to the next group; behind the last one the phase is done
abbrev pub after_swept : Heap → ℕ → Stage
after_swept heap group = if nat_lt (group + 1) heap.groups then stages.Sweeping (group + 1) else stages.Advancing

-- the next dead fragment is looked at; behind the last one all of the group's are freed, where there are any
abbrev pub after_examined : Heap → ℕ → ℕ → ℕ → Option ℕ → Stage
after_examined heap group dead words (Some position) = stages.Examining group dead position words
after_examined heap group dead words None = if dead == 0 then after_swept heap group else stages.Freeing group dead words

-- the group's dead fragments are freed: where arrays are among them their spine words are returned
abbrev pub after_freed : Heap → ℕ → ℕ → Stage
after_freed heap group words = if words == 0 then after_swept heap group else stages.Returning group words

-- the next group is cleared; behind the last one the cycle ends
abbrev pub after_cleared : Heap → ℕ → ℕ → Stage
after_cleared heap group kept = if nat_lt (group + 1) heap.groups then stages.Clearing (group + 1) kept else stages.Ending kept
