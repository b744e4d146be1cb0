-- What is true while the collector sweeps, and while it clears marks.
use Rattle.std.specs.Prelude.{◌≡◌, ◌≢◌, ℕ, ◌+◌, ◌/◌, ◌*◌, ◌%◌, ◌<◌, ◌⊎◌, ◌==◌, if◌then◌else◌, List, length}
use Rattle.std.specs.Int.{bit_at}
use Rattle.heap_model.specs.declared.heap.Heap.{Heap}
use Rattle.heap_model.specs.Limits.{group_fragments}
use Rattle.heap_model.specs.PhasePlan.{cycle_phases, marking, copying, sweep}
use Rattle.heap_model.specs.graph.Graph.{Node}
use Rattle.heap_model.specs.graph.Sizes.{spine_words_of}
use Rattle.core_machine.specs.declared.collector.stage.Stage.{Stage}
use Rattle.core_machine.specs.declared.collector.stage.Stage.TheVariants as stages
use Rattle.core_machine.specs.declared.table.address.Address.TheVariants.{Word}
use Rattle.core_machine.specs.table.Decode.{spine_words_in}
use Rattle.core_machine.specs.table.Layout.{at}
use Rattle.core_rule.specs.Book.{Colour, White}
use Rattle.core_rule.specs.objects.Objects.{IsSized}
use Rattle.core_rule.specs.owners.Owners.{Owner, Dead, dead_bit}

-- at this stage of its phase marking has ended
abbrev pub HasMarked : Stage → Type 0
HasMarked stages.Flipping = Unit {0}
HasMarked stages.Advancing = Unit {0}
HasMarked _ = ⊥

-- marking has ended, and the phase of the sweep hasn't
abbrev pub IsSettled : ℕ → Stage → Type 0
IsSettled phase stage = ((phase % cycle_phases ≡ marking) × HasMarked stage) ⊎ (phase % cycle_phases ≡ copying) ⊎ (phase % cycle_phases ≡ sweep)

-- in the groups before this one nothing is to be freed
abbrev pub AreFreed : (ℕ → Owner) → ℕ → Type 0
AreFreed owner group = (f i k : ℕ) → f / group_fragments < group → owner f ≢ Dead i k

-- these bits are set for those of the group's fragments that are to be freed
abbrev pub AreDead : (ℕ → Owner) → ℕ → ℕ → Type 0
AreDead owner group bits = (position : ℕ) → position < group_fragments → bit_at bits position ≡ dead_bit (owner (group_fragments * group + position))

-- the object has a right size, and the word tells all of its spine words in its first fragment, and none in a later one
pub record TellsWords (object : Node) (position word : ℕ) : Type 0 where
  pub sized : IsSized object.array (length object.cells)
  pub told : spine_words_in word ≡ (if position == 0 then spine_words_of object else 0)

-- the first word of each fragment that is to be freed tells the spine words of its object, which was made
abbrev pub DeadTell : Heap → List ℕ → ℕ → (ℕ → Node) → (ℕ → Owner) → Type 0
DeadTell heap words made nodes owner = (f i k : ℕ) → owner f ≡ Dead i k → (i < made) × TellsWords (nodes i) k (at heap words (Word f 0))

-- in the groups before this one nothing is marked
abbrev pub AreCleared : (ℕ → Colour) → ℕ → Type 0
AreCleared colour group = (f : ℕ) → f / group_fragments < group → colour f ≡ White

-- how far the sweep and the clearing are at each of their stages
abbrev pub SweepStands : Heap → (ℕ → Owner) → (ℕ → Colour) → ℕ → Stage → Type 0
SweepStands heap owner colour phase (stages.Sweeping group) = AreFreed owner group
SweepStands heap owner colour phase (stages.Examining group dead position words) = AreFreed owner group × AreDead owner group dead
SweepStands heap owner colour phase (stages.Freeing group dead words) = AreFreed owner group × AreDead owner group dead
SweepStands heap owner colour phase (stages.Returning group words) = AreFreed owner (group + 1)
SweepStands heap owner colour phase (stages.Clearing group kept) = AreCleared colour group
SweepStands heap owner colour phase (stages.Ending kept) = AreCleared colour heap.groups
SweepStands heap owner colour phase stages.Advancing = phase % cycle_phases ≡ sweep → AreFreed owner heap.groups
SweepStands heap owner colour phase _ = Unit {0}
