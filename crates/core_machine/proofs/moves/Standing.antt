-- What is asked of each move of a seat, and of each begin.
use Rattle.std.proofs.Common.{◌≡◌, ℕ, ◌<◌, ◌^◌, false, List, length, refl, subst, ◌+◌, ◌*◌, ◌≤◌, []}
use Rattle.std.specs.Prelude.{IfSome}
use Rattle.core_machine.proofs.Terms.{IsHeap, Command, Heap, Move, move_at, seat_after, Point, State, MayBegin, after_begin, entries_awaited, entries_awaited_at, Fits, FitsPoint}
use Rattle.core_machine.proofs.Terms.{FitsWay, FitsAnswer, IsSilent, IsAtRest, IsNowhere, Seat, FoundPointsWithin, address_of, owes_at, steps_at, Nears, owes}
use Rattle.heap_model.specs.account.Space.{need_of}
use Rattle.core_machine.specs.declared.point.Point.TheVariants as points
use Rattle.core_machine.specs.declared.point.Access.{Access}
use Rattle.core_machine.proofs.call_lemmas.Awaits.{Adds}
use Rattle.core_machine.proofs.seat_lemmas.Aside.{IsAside, busy_has_not_left, idle_is_aside, left_aside_is_absurd}
use Rattle.core_machine.proofs.seat_lemmas.FittingAccess.{Rests}
use Rattle.core_machine.proofs.table_lemmas.StepStands.{StepStands}

-- a seat whose data fit together stands at this point
pub record IsAt (heap : Heap) (number : ℕ) (seat : Seat) (point : Point) : Type 0 where
  pub limits : IsHeap heap
  pub few : number < 16
  pub fits : Fits heap seat
  pub point_is : seat.point ≡ point
  pub hand : FitsPoint heap seat point
  pub way : FitsWay seat point
  pub answer : FitsAnswer seat point

pub record MoveStands (heap : Heap) (number : ℕ) (seat : Seat) (point : Point) (move : Move) : Type 0 where
  pub step : StepStands heap move.step
  -- the seat's data fit together after it, where the word found leads within the heap
  pub fits : (found : ℕ) → found < 2 ^ 64 → FoundPointsWithin heap (address_of move.step) found → Fits heap (move.told found)
  -- fewer steps are left, and no more entries are added than were owed
  pub near : (found : ℕ) → Nears heap (seat_after move found) (owes_at seat point) (steps_at heap seat point) (length (move.adds found))
  -- the seat's own list, with what is awaited, grows as the history does
  pub adds : (now : State) → Adds heap now number seat move

-- so stands the move that is due at this point
abbrev pub PointStands : Point → Type 0
PointStands point = (heap : Heap) (number : ℕ) (seat : Seat) → IsAt heap number seat point → IfSome (move_at heap number seat point) (MoveStands heap number seat point)

-- a seat with a call in flight hasn't left
pub call_point_has_not_left : (heap : Heap) (number : ℕ) (seat : Seat) (point : Point) → IsAt heap number seat point → (point ≡ points.Idle → ⊥) → seat.left ≡ false
call_point_has_not_left heap number seat point here busy = busy_has_not_left heap seat point here.fits here.point_is busy

-- at a point where nothing is reached, loaded or about to be answered
pub point_is_aside : (heap : Heap) (number : ℕ) (seat : Seat) (point : Point) → IsAt heap number seat point → (point ≡ points.Idle → ⊥) → IsNowhere seat → IsSilent seat
    → IsAside heap seat
point_is_aside heap number seat point here busy nowhere silent = record {
  registers_fit = here.fits.own.registers_fit;
  reached_within = here.fits.way.reached_within;
  address_within = here.fits.way.address_within;
  loaded_within = here.fits.way.loaded_within;
  asked_small = here.fits.asked_small;
  nowhere = nowhere;
  silent = silent;
  present = call_point_has_not_left heap number seat point here busy;
}

-- at a point of reaching
pub access_point_rests : (heap : Heap) (number : ℕ) (seat : Seat) (point : Access) → IsAt heap number seat (points.Access point) → Rests heap seat
access_point_rests heap number seat point here = record {
  fits = here.fits;
  rest = here.hand;
  silent = here.answer;
  present = call_point_has_not_left heap number seat (points.Access point) here (λ e. cc);
}

-- a seat whose data fit together may begin this command
pub record IsReady (heap : Heap) (seat : Seat) (command : Command) : Type 0 where
  pub limits : IsHeap heap
  pub fits : Fits heap seat
  pub may : MayBegin seat command

pub record BeginStands (heap : Heap) (number : ℕ) (seat : Seat) (command : Command) (begun_ : Seat) : Type 0 where
  -- the seat's data fit together after it
  pub fits : Fits heap begun_
  -- it adds no entry, and awaits none
  pub kept : begun_.mine ≡ seat.mine
  pub awaits : (words : List ℕ) → entries_awaited heap words number begun_ ≡ []
  -- it owes no more than twice its need and two
  pub owed : owes begun_ ≤ 2 * need_of command + 2

-- so stands the begin of this command
abbrev pub CommandStands : Command → Type 0
CommandStands command = (heap : Heap) (number : ℕ) (seat : Seat) → IsReady heap seat command → BeginStands heap number seat command (after_begin heap seat command)

module _ (heap : Heap) (number : ℕ) (seat : Seat) (command : Command) (ready : IsReady heap seat command) where
  pub ready_is_at_rest : IsAtRest seat
  ready_is_at_rest = subst (FitsPoint heap seat) ready.may.idle ready.fits.at_point

  pub ready_is_aside : IsAside heap seat
  ready_is_aside = idle_is_aside heap seat ready.fits ready.may.idle ready.may.present

  -- the seat at the first point of its call
  abbrev pub seat_at_point : Point → Seat
  seat_at_point point = record seat { command = command; point = point }

  -- at a point where nothing is in the hand, reached or about to be answered
  pub resting_begin_stands : (point : Point) → FitsPoint heap (seat_at_point point) point → FitsWay (seat_at_point point) point → FitsAnswer (seat_at_point point) point
      → ((words : List ℕ) → entries_awaited_at heap words number (seat_at_point point) point ≡ [])
      → owes_at (seat_at_point point) point ≤ 2 * need_of command + 2 → BeginStands heap number seat command (seat_at_point point)
  resting_begin_stands point hand way answer awaits owed = record {
    fits = record {
      own = ready.fits.own;
      hand = ready.fits.hand;
      way = ready.fits.way;
      asked_small = ready.fits.asked_small;
      at_point = hand;
      way_at_point = way;
      answer_at_point = answer;
      gone = left_aside_is_absurd ready.may.present;
    };
    kept = refl;
    awaits = awaits;
    owed = owed;
  }
