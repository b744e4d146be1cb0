-- The graph of a history, and what is left at the end of a cycle.
use Rattle.std.specs.Prelude.{◌≡◌, ℕ, ◌+◌, ◌*◌, ◌≤◌, ◌↔◌, List, AllPairs, Contains, sum_by}
use Rattle.std.specs.List.{range_with_len}
use Rattle.heap_model.specs.PhasePlan.{cycle_phases, clearing}
use Rattle.heap_model.specs.declared.heap.Heap.{Heap}
use Rattle.heap_model.specs.declared.id.Id.{Id}
use Rattle.heap_model.specs.declared.entry.Entry.{Entry}
use Rattle.heap_model.specs.declared.entry.Entry.TheVariants as entries
use Rattle.heap_model.specs.graph.Graph.{Graph, opening}
use Rattle.heap_model.specs.graph.Growth.{graph_after}
use Rattle.heap_model.specs.graph.Reach.{Reaches, IsBefore, IsReach}
use Rattle.heap_model.specs.graph.Sizes.{fragments_of_all, spine_words_of_all}
use Rattle.heap_model.specs.account.Space.{total, fragments_gained, fragments_lost, words_granted, words_returned, taken_of, fragments_unborn}
use Rattle.heap_model.specs.account.Windows.{up_to_reply, since_reply, up_to_cycle, since_cycle}
use Rattle.heap_model.specs.account.PhaseCounts.{phase, AllAnswered}

-- the graph after a history from the opening on
abbrev pub graph_of : Heap → List Entry → Graph
graph_of heap history = graph_after (opening heap) history

-- what a seat brings into a cycle that begins here: what it had right after its last reply, and what it took since
abbrev pub brings : ℕ → List Entry → ℕ
brings number history = fragments_unborn number (up_to_reply number history) + taken_of number (since_reply number history)

-- what all seats bring
abbrev pub all_bring : Heap → List Entry → ℕ
all_bring heap history = sum_by (λ number. brings number history) (range_with_len 0 heap.seats)

-- the most fragments that a cycle may leave: what was reached when it began, what the seats brought, and what was taken since
abbrev pub bound : Heap → List Id → List Entry → ℕ
bound heap reached history =
    fragments_of_all (graph_of heap (up_to_cycle history)) reached + all_bring heap (up_to_cycle history) + total (λ e. e.taken) (since_cycle history)

-- the most spine words that it may leave: those of what was reached when it began, and of the arrays that were made since
abbrev pub spine_bound : Heap → List Id → List Entry → ℕ
spine_bound heap reached history = spine_words_of_all (graph_of heap (up_to_cycle history)) reached + words_granted (since_cycle history)

-- the list has exactly the ids that are reached in both graphs, in their order and so each once
pub record IsReachOfBoth (g h : Graph) (ids : List Id) : Type 0 where
  pub ordered : AllPairs IsBefore ids
  pub reached : (id : Id) → Contains ids id ↔ Reaches g id × Reaches h id

-- what is in use and what was kept are within the bounds
pub record IsWithinBounds (heap : Heap) (before : List Entry) (kept : ℕ) (begun : List Id) : Type 0 where
  pub used : fragments_gained heap before ≤ fragments_lost before + bound heap begun before
  pub spine : words_granted before ≤ words_returned before + spine_bound heap begun before
  pub at_most : kept ≤ bound heap begun before

-- no more is left than the bounds say, by what was reached when the cycle began
abbrev pub LeavesWithinBounds : Heap → List Entry → ℕ → Type 0
LeavesWithinBounds heap before kept = (begun : List Id) → IsReach (graph_of heap (up_to_cycle before)) begun → IsWithinBounds heap before kept begun

-- no fewer fragments were kept than what was reached both when the cycle began and now has
abbrev pub KeepsReached : Heap → List Entry → ℕ → Type 0
KeepsReached heap before kept =
    (both : List Id) → IsReachOfBoth (graph_of heap (up_to_cycle before)) (graph_of heap before) both → fragments_of_all (graph_of heap before) both ≤ kept

-- a cycle leaves no more than its bounds, and keeps no less than what stays reached
pub record LeavesLittle (heap : Heap) (before : List Entry) (kept : ℕ) : Type 0 where
  pub within : LeavesWithinBounds heap before kept
  pub reached : KeepsReached heap before kept

-- the cycle stands in its last phase, and all have answered that
abbrev pub IsThroughCycle : Heap → List Entry → ℕ → Type 0
IsThroughCycle heap before cycle = (phase before ≡ cycle_phases * cycle + clearing) × AllAnswered heap before

-- a cycle ends once all have answered its last phase, and leaves little
abbrev pub EndsCycle : Heap → List Entry → Entry → Type 0
EndsCycle heap before (entries.Ends cycle kept) = IsThroughCycle heap before cycle × LeavesLittle heap before kept
EndsCycle heap before _ = Unit {0}
