-- What each step on a berth tells the party that makes it.
use Rattle.std.specs.Prelude.{◌≡◌, ◌≢◌, ℕ, [], ◌∷◌, Option, Some, None, IfSome}
use Rattle.std.specs.declared.alloc.Global.{Global}
use Rattle.std.specs.declared.boxed.Box.{Box}
use Rattle.atomic_table.specs.Table.{Me, rest}
use Rattle.heap_table.specs.SeatHeld.{SeatHeld}
use Rattle.seat_berth.specs.Known.{Taken, opening_owner, opening_helper}
use Rattle.seat_berth.specs.OnlyAnswered.{OnlyAnswered}
use Rattle.seat_berth.specs.Resting.{IsOf}
use Rattle.seat_berth.specs.Views.{Slot, slot_of, owner_view, helper_view, owner_by, helper_by, seat_carried, parked_by, resumed_by, refused_by, taken_by, missed_by, given_by}
use Rattle.seat_berth.specs.declared.view.View.{View}

-- a party: its view, and the slot where it has taken that
abbrev pub Party : Type 0
Party = Me Slot View

-- the first party has become the owner, and has the empty slot
abbrev pub HasOpened : Party → Type 0
HasOpened after = after ≡ (owner_view opening_owner, (0, None) ∷ [])

-- a helper has come
abbrev pub HasCome : Party → Type 0
HasCome after = after ≡ (helper_view opening_helper, [])

-- the owner has handed in the seat in its slot
abbrev pub HasParked : Party → Party → Type 0
HasParked before after = after ≡ (owner_view (parked_by (owner_by before.0) (seat_carried before.1)), rest before.1)

-- the owner has its seat back, with which nothing but answers was done
pub record HasBack (before after : Party) : Type 0 where
  pub boxed : Box SeatHeld Global
  pub answered : IfSome (owner_by before.0).parked (λ parked. OnlyAnswered parked boxed.value)
  pub after_is : after ≡ (owner_view (resumed_by (owner_by before.0)), (0, slot_of boxed) ∷ before.1)

-- the owner has found that a helper has its seat
pub record IsBusy (before : Party) (found : ℕ) (after : Party) : Type 0 where
  pub helped : found ≡ 2
  pub after_is : after ≡ (owner_view (refused_by (owner_by before.0) found), before.1)

-- it has its seat back exactly where it found that this rests
pub record Resumed (before : Party) (found : ℕ) (after : Party) : Type 0 where
  pub rested : found ≡ 1 → HasBack before after
  pub busy : found ≢ 1 → IsBusy before found after

-- a helper has taken the seat of this berth, with which nothing but answers was done
pub record HasTaken (home : SeatHeld) (before after : Party) : Type 0 where
  pub boxed : Box SeatHeld Global
  pub parked : SeatHeld
  pub of : IsOf home parked
  pub answered : OnlyAnswered parked boxed.value
  pub after_is : after ≡ (helper_view (taken_by (helper_by before.0) (record { parked = parked; took = boxed.value })), (0, slot_of boxed) ∷ before.1)

-- it has taken it exactly where it found that this rests
pub record Took (home : SeatHeld) (before : Party) (found : ℕ) (after : Party) : Type 0 where
  pub rested : found ≡ 1 → HasTaken home before after
  pub missed : found ≢ 1 → after ≡ (helper_view (missed_by (helper_by before.0) found), before.1)

-- the helper has given back the seat in its slot
abbrev pub HasGiven : Party → Party → Type 0
HasGiven before after = after ≡ (helper_view (given_by (helper_by before.0) (seat_carried before.1)), rest before.1)
