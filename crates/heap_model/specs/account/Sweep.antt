-- What the collector may free, return and swing.
use Rattle.std.specs.Prelude.{◌≡◌, ◌+◌, ◌%◌, ◌≤◌, true, List, Contains}
use Rattle.std.specs.Option.{IsSomeAnd}
use Rattle.heap_model.specs.PhasePlan.{cycle_phases, copying, sweep}
use Rattle.heap_model.specs.declared.heap.Heap.{Heap}
use Rattle.heap_model.specs.declared.id.Id.{Id}
use Rattle.heap_model.specs.declared.entry.Entry.{Entry}
use Rattle.heap_model.specs.declared.entry.Entry.TheVariants as entries
use Rattle.heap_model.specs.graph.Objects.{node}
use Rattle.heap_model.specs.graph.Graph.{Graph}
use Rattle.heap_model.specs.account.Space.{fragments_gained, fragments_lost, words_granted, words_returned}
use Rattle.heap_model.specs.account.Windows.{begins_phase, after_last}
use Rattle.heap_model.specs.account.PhaseCounts.{phase}
use Rattle.heap_model.specs.account.Cycles.{graph_of}

-- the object is an array
abbrev pub IsArray : Graph → Id → Type 0
IsArray g id = IsSomeAnd (node g id) (λ object. object.array ≡ true)

-- the array has swung in this phase
abbrev pub HasSwung : Id → List Entry → Type 0
HasSwung id history = Contains (after_last begins_phase history) (entries.Swings id)

-- the sweep frees and returns some of what there is, and in the phase of copying each array swings at most once
abbrev pub Sweeps : Heap → List Entry → Entry → Type 0
Sweeps heap before (entries.Frees count) = (phase before % cycle_phases ≡ sweep) × (1 ≤ count) × (fragments_lost before + count ≤ fragments_gained heap before)
Sweeps heap before (entries.Returns count) = (phase before % cycle_phases ≡ sweep) × (1 ≤ count) × (words_returned before + count ≤ words_granted before)
Sweeps heap before (entries.Swings id) = (phase before % cycle_phases ≡ copying) × IsArray (graph_of heap before) id × ¬ HasSwung id before
Sweeps heap before _ = Unit {0}
