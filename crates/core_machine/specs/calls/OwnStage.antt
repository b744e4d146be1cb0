-- Where a call stands, by what the seat has of its own and by what its own list got since the begin, whatever words its steps have found.
use Rattle.std.specs.Prelude.{◌≡◌, ℕ, ◌++◌, List, [], length}
use Rattle.heap_model.specs.calls.SeatCalls.{last_gives}
use Rattle.heap_model.specs.declared.command.Command.{Command}
use Rattle.heap_model.specs.declared.command.Command.TheVariants as commands
use Rattle.heap_model.specs.declared.entry.Entry.{Entry}
use Rattle.heap_model.specs.declared.heap.Heap.{Heap}
use Rattle.core_machine.specs.calls.Claims.{Gathers, GivesUp}
use Rattle.core_machine.specs.calls.Kept.{Kept, kept_of, IsUntold}
use Rattle.core_machine.specs.calls.Making.{HasObject, HasSpine, name_after, HasStored, HasBorn}
use Rattle.core_machine.specs.calls.Reaching.{GoesByLinks, GoesBySpine, HasLocated, ReachesField}
use Rattle.core_machine.specs.calls.Replies.{IsAnswered}
use Rattle.core_machine.specs.declared.point.Access.{Access}
use Rattle.core_machine.specs.declared.point.Access.TheVariants.{LoadingMeta, Walking, LoadingSpot, Indexing, Getting, Naming, LoadingOld, ShadingOld, ShadingNew, Swapping, ShadingSide, Replacing}
use Rattle.core_machine.specs.declared.point.Leaving.{Leaving}
use Rattle.core_machine.specs.declared.point.Leaving.TheVariants as leaving
use Rattle.core_machine.specs.declared.point.Making.{Making}
use Rattle.core_machine.specs.declared.point.Making.TheVariants.{Granting, Withdrawing, Gathering, GivingBack, Refusing, Placing, Listing, Storing, Bearing}
use Rattle.core_machine.specs.declared.point.Point.{Point}
use Rattle.core_machine.specs.declared.point.Point.TheVariants as points
use Rattle.core_machine.specs.declared.point.Polling.{Polling}
use Rattle.core_machine.specs.declared.point.Polling.TheVariants.{Asking, Shading, Answering}
use Rattle.core_machine.specs.declared.step.AccessStep.TheVariants.{GetLoad}
use Rattle.core_machine.specs.declared.step.SpineStep.TheVariants.{BudgetAdd}
use Rattle.core_machine.specs.declared.step.Step.{Step}
use Rattle.core_machine.specs.declared.step.Step.TheVariants as steps
use Rattle.core_machine.specs.seat.Commands.{IsArrayCall}
use Rattle.core_machine.specs.seat.Looks.{seen_phase}
use Rattle.core_machine.specs.seat.Seat.{Seat, spine_need}

-- the spine that the object has, where it is an array
abbrev pub HasSpineOf : (Step → ℕ → Type 0) → Seat → Type 0
HasSpineOf tells seat = IsArrayCall seat.command → HasSpine tells seat.command seat.body seat.spine seat.listed

-- the words of the object that were stored
abbrev pub HasStoredOf : (Step → ℕ → Type 0) → ℕ → Kept → Seat → Type 0
HasStoredOf tells number before seat = HasStored tells seat.command (name_after number before.made) seat.spine seat.body seat.stored

-- the object has its fragments
abbrev pub HasObjectOf : (Step → ℕ → Type 0) → Heap → ℕ → Kept → Seat → List Entry → Type 0
HasObjectOf tells heap number before seat told = HasObject tells heap number seat.command before (kept_of seat) seat.body told

-- at each point of making
abbrev pub MakingStage : (Step → ℕ → Type 0) → Heap → ℕ → Kept → Seat → List Entry → Making → Type 0
MakingStage tells heap number before seat told Granting = IsUntold before (kept_of seat) told
MakingStage tells heap number before seat told Withdrawing = IsUntold before (kept_of seat) told × tells (steps.Spine (BudgetAdd (spine_need seat))) seat.used
MakingStage tells heap number before seat told Gathering = (kept_of seat ≡ before) × Gathers tells heap number seat.command before seat.hand seat.tried told
MakingStage tells heap number before seat told GivingBack = (kept_of seat ≡ before) × GivesUp tells heap number seat.command before seat.hand seat.given told
MakingStage tells heap number before seat told Refusing = (kept_of seat ≡ before) × GivesUp tells heap number seat.command before seat.hand seat.given told
MakingStage tells heap number before seat told Placing = HasObjectOf tells heap number before seat told
MakingStage tells heap number before seat told Listing = HasObjectOf tells heap number before seat told × HasSpine tells seat.command seat.body seat.spine seat.listed
MakingStage tells heap number before seat told Storing =
    HasObjectOf tells heap number before seat told × HasSpineOf tells seat × HasStoredOf tells number before seat
MakingStage tells heap number before seat told Bearing =
    HasObjectOf tells heap number before seat told × HasSpineOf tells seat × HasStoredOf tells number before seat × HasBorn tells seat.hand seat.body

-- at each point of reading or writing, where the object was opened
abbrev pub AccessStage : (Step → ℕ → Type 0) → Kept → Seat → Access → Type 0
AccessStage tells before seat LoadingMeta = Unit {0}
AccessStage tells before seat Walking = GoesByLinks tells seat.command before seat.reached seat.links seat.part
AccessStage tells before seat LoadingSpot = GoesBySpine tells seat.command before seat.reached seat.part
AccessStage tells before seat Indexing = HasLocated tells seat.command before seat.reached seat.part seat.address
AccessStage tells before seat Naming =
    ReachesField tells seat.command before seat.reached seat.part × tells (steps.Access (GetLoad seat.reached seat.part)) seat.loaded
AccessStage tells before seat Getting = ReachesField tells seat.command before seat.reached seat.part
AccessStage tells before seat LoadingOld = ReachesField tells seat.command before seat.reached seat.part
AccessStage tells before seat ShadingOld = ReachesField tells seat.command before seat.reached seat.part
AccessStage tells before seat ShadingNew = ReachesField tells seat.command before seat.reached seat.part
AccessStage tells before seat Swapping = ReachesField tells seat.command before seat.reached seat.part
AccessStage tells before seat (ShadingSide side) = ReachesField tells seat.command before seat.reached seat.part
AccessStage tells before seat Replacing = ReachesField tells seat.command before seat.reached seat.part

-- the phase was loaded, which the seat is about to answer
pub record HasAsked (tells : Step → ℕ → Type 0) (before kept : Kept) (asked : ℕ) (told : List Entry) : Type 0 where
  pub told_of : tells steps.PollLoad asked
  pub kept_is : kept ≡ record before { looks = seen_phase asked before.looks }
  pub none_told : told ≡ []

-- at each point of a poll
abbrev pub PollingStage : (Step → ℕ → Type 0) → Kept → Seat → List Entry → Polling → Type 0
PollingStage tells before seat told Asking = IsUntold before (kept_of seat) told
PollingStage tells before seat told Shading = HasAsked tells before (kept_of seat) seat.asked told
PollingStage tells before seat told Answering = HasAsked tells before (kept_of seat) seat.asked told

-- the reserve was given back, and told
pub record HasEmptied (number : ℕ) (before kept : Kept) (told : List Entry) : Type 0 where
  pub kept_is : kept ≡ record before { reserve = [] }
  pub gives : told ≡ last_gives number (length before.reserve)

-- at each point of a leave
abbrev pub LeavingStage : ℕ → Kept → Seat → List Entry → Leaving → Type 0
LeavingStage number before seat told leaving.Emptying = IsUntold before (kept_of seat) told
LeavingStage number before seat told leaving.Parting = HasEmptied number before (kept_of seat) told

-- at each point of a served call
abbrev pub StageAt : (Step → ℕ → Type 0) → Heap → ℕ → Kept → Seat → List Entry → Point → Type 0
StageAt tells heap number before seat told points.Idle = IsAnswered tells heap number seat.command before (kept_of seat) told
StageAt tells heap number before seat told (points.Making point) = MakingStage tells heap number before seat told point
StageAt tells heap number before seat told points.Local = IsUntold before (kept_of seat) told
StageAt tells heap number before seat told (points.Access point) = IsUntold before (kept_of seat) told × AccessStage tells before seat point
StageAt tells heap number before seat told (points.Polling point) = (seat.command ≡ commands.Poll) × PollingStage tells before seat told point
StageAt tells heap number before seat told (points.Collecting point) = ⊥
StageAt tells heap number before seat told (points.Leaving point) = LeavingStage number before seat told point

-- a served call stands so that was begun by the old seat, where so much is told of each word that its steps have found
pub record OwnStage (tells : Step → ℕ → Type 0) (heap : Heap) (number : ℕ) (command : Command) (old seat : Seat) (told : List Entry) : Type 0 where
  pub same : seat.command ≡ command
  pub mine : seat.mine ≡ old.mine ++ told
  pub stage : StageAt tells heap number (kept_of old) seat told seat.point
