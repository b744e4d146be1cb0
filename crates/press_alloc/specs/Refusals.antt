-- What a refusal behind a collect tells, on a heap with one seat.
use Rattle.std.specs.Prelude.{◌≡◌, ℕ, ◌+◌, ◌*◌, ◌<◌, List, ◌∷◌, ◌++◌}
use Rattle.heap_model.specs.Limits.{group_fragments}
use Rattle.heap_model.specs.PhasePlan.{cycle_phases, barriers}
use Rattle.heap_model.specs.declared.entry.Entry.{Entry}
use Rattle.heap_model.specs.declared.entry.Entry.TheVariants.{Advance, Ends}
use Rattle.heap_model.specs.declared.heap.Heap.{Heap}
use Rattle.heap_model.specs.declared.id.Id.{Id}
use Rattle.heap_model.specs.declared.reply.Reply.{Reply}
use Rattle.heap_model.specs.declared.reply.Reply.TheVariants.{Full, SpineFull}
use Rattle.heap_model.specs.account.Cycles.{graph_of}
use Rattle.heap_model.specs.graph.Reach.{IsReach}
use Rattle.heap_model.specs.graph.Sizes.{fragments_of_all, spine_words_of_all}
use Rattle.press_alloc.specs.Presses.{RefusesSpace}

-- what is reached and so many fragments more are more than the heap has
abbrev pub ExceedsFragments : Heap → List Entry → ℕ → Type 0
ExceedsFragments heap history need =
    (reached : List Id) → IsReach (graph_of heap history) reached → group_fragments * heap.groups < fragments_of_all (graph_of heap history) reached + need

-- the spine words of what is reached and so many more are more than the heap may grant
abbrev pub ExceedsWords : Heap → List Entry → ℕ → Type 0
ExceedsWords heap history need =
    (reached : List Id) → IsReach (graph_of heap history) reached → heap.spine < spine_words_of_all (graph_of heap history) reached + need

-- on one seat fragments are refused only where they are more than the heap has beside what is reached
abbrev pub HasNoFragments : Heap → List Entry → Reply → Type 0
HasNoFragments heap history (Full need found) = heap.seats ≡ 1 → ExceedsFragments heap history need
HasNoFragments heap history _ = Unit {0}

-- on one seat spine words are refused only where they are more than the heap may grant beside those of what is reached
abbrev pub HasNoWords : Heap → List Entry → Reply → Type 0
HasNoWords heap history (SpineFull need used) = heap.seats ≡ 1 → ExceedsWords heap history need
HasNoWords heap history _ = Unit {0}

-- a cycle began and ended among these entries
pub record HoldsCycle (told : List Entry) : Type 0 where
  pub cycle : ℕ
  pub before : List Entry
  pub within : List Entry
  pub kept : ℕ
  pub behind : List Entry
  pub parts : told ≡ before ++ Advance (cycle_phases * cycle + barriers) ∷ (within ++ Ends cycle kept ∷ behind)

-- on one seat space is refused only behind a cycle that began and ended among what was added
abbrev pub HasCollected : Heap → List Entry → List Entry → Reply → Type 0
HasCollected heap old new reply = heap.seats ≡ 1 → RefusesSpace reply → (added : List Entry) × (new ≡ old ++ added) × HoldsCycle added
