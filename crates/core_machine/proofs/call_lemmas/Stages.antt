-- How the words stand, while a call is made by itself, to those of its begin, beside where it stands by the seat's own data.
use Rattle.std.specs.Prelude.{IfSome}
use Rattle.std.proofs.Common.{◌≡◌, ℕ, ◌+◌, ◌%◌, ◌^◌, ◌<◌, ◌≤◌, List, [], ◌∷◌, ◌++◌, length}
use Rattle.core_machine.proofs.Terms.{Heap, Command, Poll, Entry, Said, Reply, spine_need_of, tells_nothing, OwnStage, Phase, Budget, Control, Point, Granting, Withdrawing}
use Rattle.core_machine.proofs.Terms.{Gathering, GivingBack, Refusing, Placing, Listing, Storing, Bearing, clear_in, at, Seat, Move, seat_after, State, seat_at, found_by}
use Rattle.core_machine.proofs.Terms.{state_after_move, LoadingMeta, Naming, IsRecordCall, IsArrayCall, free_count, within_reach, AnswersNew, LacksSpineWords, AnswersArray}
use Rattle.core_machine.proofs.Terms.{IsPlaceRefusal, LeavesAll, Address, InTable, IsMachine, StageAt, call_over, kept_of, FitsPoint, FitsWay, move_at}
use Rattle.heap_model.specs.declared.reply.Reply.TheVariants as replies
use Rattle.heap_model.specs.account.Space.{need_of}
use Rattle.core_machine.specs.declared.point.Point.TheVariants as points
use Rattle.core_machine.specs.declared.point.Making.{Making}
use Rattle.heap_model.specs.declared.id.Value.{Value}
use Rattle.core_machine.specs.declared.point.Access.{Access}
use Rattle.core_machine.specs.declared.point.Polling.{Polling}
use Rattle.core_machine.specs.declared.point.Polling.TheVariants.{Asking, Shading, Answering}
use Rattle.core_machine.proofs.call_lemmas.Asking.{AsksWords, HasClaimed}

-- while the spine words are taken back that are too many
pub record WhileWithdrawing (heap : Heap) (old : State) (words : List ℕ) (command : Command) (used : ℕ) : Type 0 where
  pub lacks : LacksSpineWords heap old command
  pub found : used ≡ at heap old.words Budget
  pub asked : AsksWords heap (spine_need_of command) old.words words

-- while groups are claimed: what is free now and what is in the hand was free at the begin, and the groups passed have nothing free
pub record WhileGathering (heap : Heap) (old : State) (words : List ℕ) (command : Command) (cursor tried : ℕ) (hand : List ℕ) : Type 0 where
  pub free : free_count heap words + length hand ≡ free_count heap old.words
  pub passed : (i : ℕ) → i < tried → clear_in ((cursor + i) % heap.groups) (at heap words (Control ((cursor + i) % heap.groups))) ≡ []
  pub claims : HasClaimed heap old words command hand

-- while what was claimed is given back: it was all that was free
pub record WhileGivingBack (heap : Heap) (old : State) (words : List ℕ) (command : Command) (hand : List ℕ) (given : ℕ) : Type 0 where
  pub all : length hand + given ≡ free_count heap old.words
  pub claims : HasClaimed heap old words command hand

-- while the object is stored and born: an array was granted its spine words, and enough was within reach
pub record WhileMaking (heap : Heap) (old : State) (number : ℕ) (command : Command) : Type 0 where
  pub granted : IsArrayCall command → LacksSpineWords heap old command → ⊥
  pub enough : need_of command ≤ within_reach heap old number

-- the call was answered: its last entry is its reply
pub record Answered (heap : Heap) (old new : State) (number : ℕ) (command : Command) (told : List Entry) : Type 0 where
  pub reply : Reply
  pub before : List Entry
  pub last : told ≡ before ++ Said number command reply ∷ []
  pub answer : IsRecordCall command → AnswersNew heap old new number command reply
  pub array : IsArrayCall command → AnswersArray heap old new number command reply
  pub refused : IsPlaceRefusal reply → LeavesAll heap old new number reply
  pub phase : command ≡ Poll → (p : ℕ) → reply ≡ replies.Phase p → p ≡ at heap old.words Phase

-- the history has the reply of a get
pub record TellsGot (number : ℕ) (command : Command) (told : List Entry) : Type 0 where
  pub value : Value
  pub stamp : ℕ
  pub before : List Entry
  pub last : told ≡ before ++ Said number command (replies.Got value stamp) ∷ []

-- how the words stand to those of the begin, by the point of the call
abbrev pub MakingAlone : Heap → State → List ℕ → ℕ → Command → Seat → Making → Type 0
MakingAlone heap old words number command seat Granting = words ≡ old.words
MakingAlone heap old words number command seat Withdrawing = WhileWithdrawing heap old words command seat.used
MakingAlone heap old words number command seat Gathering = WhileGathering heap old words command seat.cursor seat.tried seat.hand
MakingAlone heap old words number command seat GivingBack = WhileGivingBack heap old words command seat.hand seat.given
MakingAlone heap old words number command seat Refusing = WhileGivingBack heap old words command seat.hand seat.given
MakingAlone heap old words number command seat Placing = WhileMaking heap old number command
MakingAlone heap old words number command seat Listing = WhileMaking heap old number command
MakingAlone heap old words number command seat Storing = WhileMaking heap old number command
MakingAlone heap old words number command seat Bearing = WhileMaking heap old number command

abbrev pub AccessAlone : State → List ℕ → ℕ → Command → List Entry → Access → Type 0
AccessAlone old words number command told LoadingMeta = words ≡ old.words
AccessAlone old words number command told Naming = TellsGot number command told
AccessAlone old words number command told _ = Unit {0}

abbrev pub PollingAlone : Heap → State → List ℕ → Seat → Polling → Type 0
PollingAlone heap old words seat Asking = words ≡ old.words
PollingAlone heap old words seat Shading = seat.asked ≡ at heap old.words Phase
PollingAlone heap old words seat Answering = seat.asked ≡ at heap old.words Phase

abbrev pub AloneStage : Heap → State → State → ℕ → Command → List Entry → Seat → Point → Type 0
AloneStage heap old now number command told seat points.Idle = Answered heap old now number command told
AloneStage heap old now number command told seat (points.Making point) = MakingAlone heap old now.words number command seat point
AloneStage heap old now number command told seat points.Local = now.words ≡ old.words
AloneStage heap old now number command told seat (points.Access point) = AccessAlone old now.words number command told point
AloneStage heap old now number command told seat (points.Polling point) = PollingAlone heap old now.words seat point
AloneStage heap old now number command told seat (points.Collecting point) = Unit {0}
AloneStage heap old now number command told seat (points.Leaving point) = Unit {0}

-- how the state stands to that of the begin: the seat's own data and list with nothing told of the words, and the words
pub record Stage (heap : Heap) (old now : State) (number : ℕ) (command : Command) (told mine : List Entry) (seat : Seat) : Type 0 where
  pub own : OwnStage tells_nothing heap number command (seat_at old number) seat mine
  pub alone : AloneStage heap old now number command told seat seat.point

-- what a move of the seat leads to
abbrev pub AloneAfter : Heap → State → ℕ → Command → State → List Entry → Move → Type 0
AloneAfter heap old number command now told move =
    let found = found_by heap now move.step in
    AloneStage heap old (state_after_move heap now number move) number command (told ++ move.shows now.words found) (seat_after move found) (seat_after move found).point

-- a call that is made by itself stands at this point of its seat
pub record IsAlone (heap : Heap) (old : State) (number : ℕ) (command : Command) (now : State) (told : List Entry) (point : Point) : Type 0 where
  pub machine : IsMachine heap now
  pub small : (a : Address) → InTable heap a → at heap old.words a < 2 ^ 64
  pub within : number < length now.seats
  pub resting : call_over (seat_at old number) ≡ seat_at old number
  pub point_is : (seat_at now number).point ≡ point
  pub fits : FitsPoint heap (seat_at now number) point
  pub way : FitsWay (seat_at now number) point
  pub same : (seat_at now number).command ≡ command
  pub mine : List Entry
  pub own : StageAt tells_nothing heap number (kept_of (seat_at old number)) (seat_at now number) mine point
  pub alone : AloneStage heap old now number command told (seat_at now number) point

-- so the move at this point leads on, where the call is made by itself
abbrev pub PointLeadsAlone : Point → Type 0
PointLeadsAlone point = (heap : Heap) (old : State) (number : ℕ) (command : Command) (now : State) (told : List Entry) → IsAlone heap old number command now told point
    → IfSome (move_at heap number (seat_at now number) point) (AloneAfter heap old number command now told)
