-- What is true of the collector's own data while it copies spines.
use Rattle.std.specs.Prelude.{ℕ, ◌≡◌, ◌*◌, ◌%◌, ◌<◌, ◌≤◌, ◌^◌}
use Rattle.std.specs.Int.{bit_at}
use Rattle.heap_model.specs.declared.heap.Heap.{Heap}
use Rattle.heap_model.specs.Limits.{group_fragments}
use Rattle.heap_model.specs.PhasePlan.{cycle_phases, copying as copying_phase}
use Rattle.core_machine.specs.declared.collector.stage.ArrayAt.{ArrayAt}
use Rattle.core_machine.specs.declared.collector.stage.Copying.{Copying}
use Rattle.core_machine.specs.declared.collector.stage.Copying.TheVariants as copying
use Rattle.core_machine.specs.declared.collector.stage.SpineCopy.{SpineCopy}
use Rattle.core_machine.specs.declared.collector.stage.Visit.{Visit}
use Rattle.heap_words.specs.Loaded.{payload_in}
use Rattle.core_machine.specs.table.Layout.{FitsSpot}

-- the most words of a spine that a meta tells
abbrev pub spine_most : ℕ
spine_most = 2048

-- every seat has answered, and copying is what this phase is for
pub record IsCopying (seats phase looked : ℕ) : Type 0 where
  pub all : looked ≡ seats
  pub for_copying : phase % cycle_phases ≡ copying_phase

-- a visit stands before a marked fragment of a group of the heap
pub record FitsVisit (heap : Heap) (visit : Visit) : Type 0 where
  pub group_within : visit.group < heap.groups
  pub marked_within : visit.marked < 2 ^ 16
  pub position_within : visit.position < 16
  pub is_marked : bit_at visit.marked visit.position ≡ 1

-- an array was found at a visit's fragment, with no more spine words than a meta tells
pub record FitsArrayAt (heap : Heap) (array : ArrayAt) : Type 0 where
  pub there : FitsVisit heap array.visit
  pub words_few : array.words ≤ spine_most

-- a copy stands before one of its words, or behind the last one
pub record FitsCopy (heap : Heap) (copy : SpineCopy) : Type 0 where
  pub array_fits : FitsArrayAt heap copy.array
  pub from_within : FitsSpot copy.from
  pub to_within : FitsSpot copy.to
  pub index_within : copy.index ≤ copy.array.words

-- a word was loaded that names a fragment of the heap, and the copy stands before the place where it is to be stored
pub record FitsStoring (heap : Heap) (copy : SpineCopy) (word : ℕ) : Type 0 where
  pub copies : FitsCopy heap copy
  pub more : copy.index < copy.array.words
  pub names : payload_in word < group_fragments * heap.groups
  pub wide : word < 2 ^ 64

-- what is true at each stage of copying
abbrev pub FitsCopying : Heap → Copying → Type 0
FitsCopying heap (copying.Visiting group) = group < heap.groups
FitsCopying heap (copying.Inspecting visit) = FitsVisit heap visit
FitsCopying heap (copying.Naming visit words) = FitsVisit heap visit × (words ≤ spine_most)
FitsCopying heap (copying.Locating array) = FitsArrayAt heap array
FitsCopying heap (copying.Claiming array from) = FitsArrayAt heap array × FitsSpot from
FitsCopying heap (copying.Loading copy) = FitsCopy heap copy × (copy.index < copy.array.words)
FitsCopying heap (copying.Storing copy word) = FitsStoring heap copy word
FitsCopying heap (copying.Swinging copy) = FitsCopy heap copy × (copy.index ≡ copy.array.words)
