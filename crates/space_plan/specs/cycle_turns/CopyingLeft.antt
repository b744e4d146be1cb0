-- How many turns are left of copying, for the fragments and the arrays to which it hasn't come yet.
use Rattle.std.specs.Prelude.{ℕ, ◌+◌, ◌-◌, ◌*◌, List}
use Rattle.heap_model.specs.declared.heap.Heap.{Heap}
use Rattle.heap_model.specs.Limits.{group_fragments}
use Rattle.core_machine.specs.collector.CopyingTurns.{visited}
use Rattle.core_machine.specs.declared.collector.stage.Copying.{Copying}
use Rattle.core_machine.specs.declared.collector.stage.Copying.TheVariants as copying
use Rattle.core_machine.specs.declared.collector.stage.Visit.{Visit}
use Rattle.space_plan.specs.cycle_turns.ToldWords.{fragments_before}

-- what is left of copying from a group and a fragment on: a load of each group and of each fragment's first word, and four turns for each fragment of an array to come
abbrev pub visits_left : Heap → List ℕ → ℕ → ℕ → ℕ
visits_left heap words group from =
    heap.groups - group + (group_fragments * heap.groups - from) + 4 * (group_fragments * heap.groups - fragments_before heap words from)

-- what is left of copying behind the fragment of a visit
abbrev pub behind_visit : Heap → List ℕ → Visit → ℕ
behind_visit heap words visit = visits_left heap words (visit.group + 1) (visited visit + 1)

-- what is left at each stage of copying: of an array its name, its place, the copy's place, two turns for each word, and the swing
abbrev pub copying_left : Heap → List ℕ → Copying → ℕ
copying_left heap words (copying.Visiting group) = visits_left heap words group (group_fragments * group)
copying_left heap words (copying.Inspecting visit) = visits_left heap words (visit.group + 1) (visited visit)
copying_left heap words (copying.Naming visit n) = behind_visit heap words visit + (4 + 2 * n)
copying_left heap words (copying.Locating array) = behind_visit heap words array.visit + (3 + 2 * array.words)
copying_left heap words (copying.Claiming array from) = behind_visit heap words array.visit + (2 + 2 * array.words)
copying_left heap words (copying.Loading copy) = behind_visit heap words copy.array.visit + (1 + 2 * (copy.array.words - copy.index))
copying_left heap words (copying.Storing copy word) = behind_visit heap words copy.array.visit + 2 * (copy.array.words - copy.index)
copying_left heap words (copying.Swinging copy) = behind_visit heap words copy.array.visit + 1
