-- What is true of a seat's own data, whatever the words are.
use Rattle.std.specs.Prelude.{◌≡◌, ◌*◌, ◌/◌, ◌<◌, ◌≤◌, ◌^◌, true, [], length, All, ℕ, List}
use Rattle.heap_words.specs.declared.spot.Spot.{Spot}
use Rattle.heap_model.specs.declared.heap.Heap.{Heap}
use Rattle.heap_model.specs.declared.command.Command.TheVariants as commands
use Rattle.heap_model.specs.Command.{IsCommand}
use Rattle.heap_model.specs.Limits.{group_fragments, register_count, number_limit, most_reserve}
use Rattle.core_machine.specs.declared.point.Point.{Point}
use Rattle.core_machine.specs.declared.point.Point.TheVariants as points
use Rattle.core_machine.specs.declared.seat.register.Register.{Register}
use Rattle.core_machine.specs.declared.seat.register.Register.TheVariants.{Nil, Number, Object}
use Rattle.core_machine.specs.seat.FitsAccess.{FitsAccess, IsNowhere}
use Rattle.heap_words.specs.Loaded.{head_of}
use Rattle.core_machine.specs.table.Decode.{IsWithinHeap}
use Rattle.core_machine.specs.table.Layout.{FitsSpot}
use Rattle.core_machine.specs.seat.Seat.{Seat}
pub use Rattle.core_machine.specs.seat.FitsMaking.{AreFragments, HasNoSpine, HasNoHand, IsAtRest, MakesNext, SeatIsGranting, SeatIsWithdrawing, SeatIsGathering, SeatIsRefusing, HasBody, SpineIsListed, IsUnstored, HasArrayBody, FitsMaking}
pub use Rattle.core_machine.specs.seat.FitsHandshake.{IsLocal, AnswersThePhase, FitsLeaving, HasNoAnswer, IsSilent, SeatIsAnswering, FitsPolling}
pub use Rattle.core_machine.specs.seat.Collecting.{FitsCollecting}
pub use Rattle.core_machine.specs.collector.FitsTurns.{FitsStage, CollectorFits}

-- what is true of the hand and of the command at each point
abbrev pub FitsPoint : Heap → Seat → Point → Type 0
FitsPoint heap seat points.Idle = IsAtRest seat
FitsPoint heap seat (points.Making point) = FitsMaking heap seat point
FitsPoint heap seat points.Local = IsAtRest seat × IsCommand seat.command × IsLocal seat.registers seat.command
FitsPoint heap seat (points.Access point) = IsAtRest seat
FitsPoint heap seat (points.Polling point) = IsAtRest seat
FitsPoint heap seat (points.Collecting point) = IsAtRest seat × (seat.command ≡ commands.Collect) × FitsCollecting heap seat point
FitsPoint heap seat (points.Leaving point) = IsAtRest seat × (seat.command ≡ commands.Leave) × FitsLeaving seat point

-- what has been reached and loaded at each point
abbrev pub FitsWay : Seat → Point → Type 0
FitsWay seat (points.Access point) = FitsAccess seat point
FitsWay seat points.Idle = IsNowhere seat
FitsWay seat (points.Making point) = IsNowhere seat
FitsWay seat points.Local = IsNowhere seat
FitsWay seat (points.Polling point) = IsNowhere seat
FitsWay seat (points.Collecting point) = IsNowhere seat
FitsWay seat (points.Leaving point) = IsNowhere seat

-- which phase is about to be answered at each point
abbrev pub FitsAnswer : Seat → Point → Type 0
FitsAnswer seat (points.Polling point) = FitsPolling seat point
FitsAnswer seat points.Idle = IsSilent seat
FitsAnswer seat (points.Making point) = IsSilent seat
FitsAnswer seat points.Local = IsSilent seat
FitsAnswer seat (points.Access point) = IsSilent seat
FitsAnswer seat (points.Collecting point) = IsSilent seat
FitsAnswer seat (points.Leaving point) = IsSilent seat

-- a register's number is within the limit, and its object's first fragment is one of the heap's
abbrev pub FitsRegister : Heap → Register → Type 0
FitsRegister heap Nil = Unit {0}
FitsRegister heap (Number n) = n < number_limit
FitsRegister heap (Object head id) = head < group_fragments * heap.groups

-- no call is in flight, and there is no reserve: so it is with a seat that has left
pub record IsGone (seat : Seat) : Type 0 where
  pub idle : seat.point ≡ points.Idle
  pub no_reserve : seat.reserve ≡ []

-- what a seat keeps between two calls
pub record OwnFits (heap : Heap) (registers : List Register) (reserve : List ℕ) (cursor : ℕ) : Type 0 where
  pub registers_whole : length registers ≡ register_count
  pub registers_fit : All (FitsRegister heap) registers
  pub cursor_within : cursor < heap.groups
  pub small_reserve : length reserve ≤ most_reserve
  pub reserve_of_cursor : All (λ fragment. fragment / group_fragments ≡ cursor) reserve

-- the fragments of the hand and of the new object are the heap's, and its spine's place is a spot that a word may tell
pub record HandFits (heap : Heap) (hand body : List ℕ) (spine : Spot) : Type 0 where
  pub hand_within : AreFragments heap hand
  pub body_within : AreFragments heap body
  pub spine_within : FitsSpot spine

-- what a call has reached is the heap's, what it has loaded refers into the heap if at all, and its spine's place is such a spot
pub record WayFits (heap : Heap) (reached : ℕ) (address : Spot) (loaded : ℕ) : Type 0 where
  pub reached_within : reached < group_fragments * heap.groups
  pub address_within : FitsSpot address
  pub loaded_within : IsWithinHeap heap (head_of loaded)

-- the seat's own data fit together
pub record Fits (heap : Heap) (seat : Seat) : Type 0 where
  pub own : OwnFits heap seat.registers seat.reserve seat.cursor
  pub hand : HandFits heap seat.hand seat.body seat.spine
  pub way : WayFits heap seat.reached seat.address seat.loaded
  pub asked_small : seat.asked < 2 ^ 64
  pub at_point : FitsPoint heap seat seat.point
  pub way_at_point : FitsWay seat seat.point
  pub answer_at_point : FitsAnswer seat seat.point
  pub gone : seat.left ≡ true → IsGone seat
