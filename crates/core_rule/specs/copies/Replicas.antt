-- The replicas of spines: those that readers have loaded, and the collector's copy in progress.
use Rattle.std.specs.Prelude.{◌≡◌, ◌≢◌, ℕ, ◌+◌, ◌*◌, ◌<◌, ◌⊎◌, true, List, Option, Some, None, IfSome}
use Rattle.std.specs.Int.{bit_at}
use Rattle.heap_words.specs.declared.spot.Spot.{Spot}
use Rattle.heap_model.specs.declared.id.Id.{Id}
use Rattle.heap_model.specs.declared.heap.Heap.{Heap}
use Rattle.heap_model.specs.Limits.{group_fragments}
use Rattle.heap_model.specs.PhasePlan.{marking, copying as copying_phase}
use Rattle.heap_model.specs.graph.Graph.{Node}
use Rattle.heap_model.specs.graph.Sizes.{spine_words_of}
use Rattle.core_machine.specs.collector.CopyingTurns.{visited, sentinel_at}
use Rattle.core_machine.specs.declared.collector.stage.ArrayAt.{ArrayAt}
use Rattle.core_machine.specs.declared.collector.stage.Copying.{Copying}
use Rattle.core_machine.specs.declared.collector.stage.Copying.TheVariants as copying
use Rattle.core_machine.specs.declared.collector.stage.SpineCopy.{SpineCopy}
use Rattle.core_machine.specs.declared.collector.stage.Stage.{Stage}
use Rattle.core_machine.specs.declared.collector.stage.Stage.TheVariants as stages
use Rattle.core_machine.specs.declared.collector.stage.Visit.{Visit}
use Rattle.core_machine.specs.declared.point.Access.TheVariants.{Indexing, Getting, LoadingOld, ShadingOld, ShadingNew, Swapping, ShadingSide, Replacing}
use Rattle.core_machine.specs.declared.point.Point.{Point}
use Rattle.core_machine.specs.declared.point.Point.TheVariants as points
use Rattle.core_machine.specs.seat.Commands.{object_of}
use Rattle.core_machine.specs.seat.Registers.{register_head, register_in}
use Rattle.core_machine.specs.seat.Seat.{Seat}
use Rattle.core_machine.specs.table.Layout.{at, spine_place}
use Rattle.heap_words.specs.Newborn.{spine_word}
use Rattle.core_rule.specs.Book.{Colour, fragment_at, id_at}
use Rattle.core_rule.specs.colours.Colours.{IsMarked, IsBetween}
use Rattle.core_rule.specs.owners.Owners.{Owner, Kept, SpineOwner, Placed, Gone}
use Rattle.core_rule.specs.spines.Spines.{IsWordOf}

-- an array has left the replica at this place, whose words still name its payload, and the seat hasn't answered the sweep yet
pub record IsLeftReplica (heap : Heap) (words : List ℕ) (object : Node) (fragments : List ℕ) (spine_owner : ℕ → ℕ → SpineOwner) (answered : ℕ) (address : Spot) : Type 0 where
  pub late : IsBetween marking copying_phase answered
  pub left : (k : ℕ) → k < spine_words_of object → spine_owner address.half (address.offset + k) ≡ Gone
  pub listed : (k : ℕ) → k < spine_words_of object → at heap words (spine_place address k) ≡ spine_word (fragment_at fragments (k + 1))

-- at this point a call on an array has loaded the place of its spine, and isn't done with its cell
abbrev pub HasLoaded : Point → Type 0
HasLoaded (points.Access Indexing) = Unit {0}
HasLoaded (points.Access Getting) = Unit {0}
HasLoaded (points.Access LoadingOld) = Unit {0}
HasLoaded (points.Access ShadingOld) = Unit {0}
HasLoaded (points.Access ShadingNew) = Unit {0}
HasLoaded (points.Access Swapping) = Unit {0}
HasLoaded (points.Access (ShadingSide side)) = Unit {0}
HasLoaded (points.Access Replacing) = Unit {0}
HasLoaded _ = ⊥

-- what holds where a call has loaded the place of a spine
abbrev pub WhileLoaded : Type 0 → Point → Type 0
WhileLoaded P (points.Access Indexing) = P
WhileLoaded P (points.Access Getting) = P
WhileLoaded P (points.Access LoadingOld) = P
WhileLoaded P (points.Access ShadingOld) = P
WhileLoaded P (points.Access ShadingNew) = P
WhileLoaded P (points.Access Swapping) = P
WhileLoaded P (points.Access (ShadingSide side)) = P
WhileLoaded P (points.Access Replacing) = P
WhileLoaded P _ = Unit {0}

-- the call's register holds the object that begins with this fragment
abbrev pub CallsObject : Seat → ℕ → Type 0
CallsObject seat f = register_head (register_in seat.registers (object_of seat.command)) ≡ Some f

-- where the call's object is an array, the place that it has loaded is that of its spine, or of a replica that it has left
abbrev pub ReadsSpine : Heap → List ℕ → (ℕ → Node) → (ℕ → Owner) → (ℕ → List ℕ) → (ℕ → Spot) → (ℕ → ℕ → SpineOwner) → Seat → Type 0
ReadsSpine heap words nodes owner fragments spines spine_owner seat =
    (i f : ℕ) → CallsObject seat f → owner f ≡ Kept i 0 → (nodes i).array ≡ true
    → (seat.address ≡ spines i) ⊎ IsLeftReplica heap words (nodes i) (fragments i) spine_owner seat.answered seat.address

-- the place of a spine that a call has loaded is such a one until the call is done with its cell
abbrev pub AddressStands : Heap → List ℕ → (ℕ → Node) → (ℕ → Owner) → (ℕ → List ℕ) → (ℕ → Spot) → (ℕ → ℕ → SpineOwner) → Seat → Point → Type 0
AddressStands heap words nodes owner fragments spines spine_owner seat point = WhileLoaded (ReadsSpine heap words nodes owner fragments spines spine_owner seat) point

-- the fragments that a visit has found to be marked are marked
abbrev pub VisitIsMarked : (ℕ → Colour) → Visit → Type 0
VisitIsMarked colour visit = (position : ℕ) → bit_at visit.marked position ≡ 1 → IsMarked colour (group_fragments * visit.group + position)

-- a kept array of so many spine words begins with the fragment
pub record BeginsArray (nodes : ℕ → Node) (owner : ℕ → Owner) (f words : ℕ) : Type 0 where
  pub index : ℕ
  pub kept : owner f ≡ Kept index 0
  pub is_array : (nodes index).array ≡ true
  pub as_many : words ≡ spine_words_of (nodes index)

-- a visit has found a kept array, and has its number of spine words and its id
pub record HasFoundArray (nodes : ℕ → Node) (made : List Id) (owner : ℕ → Owner) (colour : ℕ → Colour) (array : ArrayAt) : Type 0 where
  pub marked : VisitIsMarked colour array.visit
  pub begins : BeginsArray nodes owner (sentinel_at array) array.words
  pub named : array.id ≡ id_at made begins.index

-- the spine of the array that was found stands at this place, in the half that was left
pub record IsToCopy (nodes : ℕ → Node) (made : List Id) (owner : ℕ → Owner) (colour : ℕ → Colour) (spines : ℕ → Spot) (half : ℕ) (array : ArrayAt) (from : Spot) : Type 0 where
  pub found : HasFoundArray nodes made owner colour array
  pub own : from ≡ spines found.begins.index
  pub left : from.half ≢ half

-- what copying has found at each of its stages; a copy has its place in this half
abbrev pub CopyingStands : (ℕ → Node) → List Id → (ℕ → Owner) → (ℕ → Colour) → (ℕ → List ℕ) → (ℕ → Spot) → ℕ → Copying → Type 0
CopyingStands nodes made owner colour fragments spines half (copying.Visiting group) = Unit {0}
CopyingStands nodes made owner colour fragments spines half (copying.Inspecting visit) = VisitIsMarked colour visit
CopyingStands nodes made owner colour fragments spines half (copying.Naming visit words) = VisitIsMarked colour visit × BeginsArray nodes owner (visited visit) words
CopyingStands nodes made owner colour fragments spines half (copying.Locating array) = HasFoundArray nodes made owner colour array
CopyingStands nodes made owner colour fragments spines half (copying.Claiming array from) = IsToCopy nodes made owner colour spines half array from
CopyingStands nodes made owner colour fragments spines half (copying.Loading copy) = IsToCopy nodes made owner colour spines half copy.array copy.from × (copy.to.half ≡ half)
CopyingStands nodes made owner colour fragments spines half (copying.Storing copy word) =
    (to_copy : IsToCopy nodes made owner colour spines half copy.array copy.from) × (word ≡ spine_word (fragment_at (fragments to_copy.found.begins.index) (copy.index + 1))) × (copy.to.half ≡ half)
CopyingStands nodes made owner colour fragments spines half (copying.Swinging copy) = IsToCopy nodes made owner colour spines half copy.array copy.from × (copy.to.half ≡ half)

-- the copy in progress, from the claim of its place until the array swings to it
abbrev pub copy_in : Stage → Option SpineCopy
copy_in (stages.Copying (copying.Loading copy)) = Some copy
copy_in (stages.Copying (copying.Storing copy word)) = Some copy
copy_in (stages.Copying (copying.Swinging copy)) = Some copy
copy_in _ = None

-- the word is the k-th of the copy in progress
pub record IsOfCopy (stage : Stage) (half offset k : ℕ) : Type 0 where
  pub copy : SpineCopy
  pub progress : copy_in stage ≡ Some copy
  pub within : k < copy.array.words
  pub is : IsWordOf copy.to half offset k

-- the collector has exactly the words of its copy, and the first ones equal those of the spine
pub record CopyInHand (heap : Heap) (words : List ℕ) (spine_owner : ℕ → ℕ → SpineOwner) (stage : Stage) : Type 0 where
  pub placed : IfSome (copy_in stage) (λ copy. (j : ℕ) → j < copy.array.words → spine_owner copy.to.half (copy.to.offset + j) ≡ Placed heap.seats j)
  pub own : (half offset j : ℕ) → spine_owner half offset ≡ Placed heap.seats j → IsOfCopy stage half offset j
  pub copied : IfSome (copy_in stage) (λ copy. (j : ℕ) → j < copy.index → at heap words (spine_place copy.to j) ≡ at heap words (spine_place copy.from j))
