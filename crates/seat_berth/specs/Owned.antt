-- What a party's token has between two steps, and what its step has come to.
use Rattle.std.specs.Prelude.{◌≡◌, ◌≢◌, ℕ, List, [], ◌∷◌, Option, Some, None, IfSome}
use Rattle.atomic_table.specs.Seated.{TableId}
use Rattle.heap_table.specs.SeatHeld.{SeatHeld}
use Rattle.seat_berth.specs.Known.{OwnerKnown, HelperKnown, Taken}
use Rattle.seat_berth.specs.OnlyAnswered.{OnlyAnswered}
use Rattle.seat_berth.specs.Plays.{Party}
use Rattle.seat_berth.specs.Resting.{IsOf}
use Rattle.seat_berth.specs.Views.{Slot, owner_view, helper_view, owner_by, helper_by, resumed_by, refused_by, taken_by, missed_by}

-- the berth has one word and one slot, and the token is of it
pub record IsTokenOf (berth mine : TableId) : Type 0 where
  pub table : mine ≡ berth
  pub words : berth.words ≡ 1
  pub slots : berth.slots ≡ 1

-- the owner has the empty slot while it has its seat
abbrev pub slots_of : Option SeatHeld → List (ℕ × Slot)
slots_of None = (0, None) ∷ []
slots_of (Some parked) = []

-- the token is the owner's, who is the first party
pub record IsOwner (party : ℕ) (me : Party) : Type 0 where
  pub first : party ≡ 0
  pub knows : me ≡ (owner_view (owner_by me.0), slots_of (owner_by me.0).parked)

-- the token is a helper's, which has nothing of the berth
pub record IsHelper (me : Party) : Type 0 where
  pub knows : me ≡ (helper_view (helper_by me.0), [])
  pub free : (helper_by me.0).has ≡ None

-- the token is a helper's, which has the slot, empty now, and may give back this seat
pub record MayGive (me : Party) (seat : SeatHeld) : Type 0 where
  pub knows : me ≡ (helper_view (helper_by me.0), (0, None) ∷ [])
  pub taken : Taken
  pub has : (helper_by me.0).has ≡ Some taken
  pub answered : OnlyAnswered taken.parked seat

-- the owner knew this and has its seat back, with which nothing but answers was done
pub record IsBackWith (old : OwnerKnown) (after : Party) (seat : SeatHeld) : Type 0 where
  pub answered : IfSome old.parked (λ parked. OnlyAnswered parked seat)
  pub after_is : after ≡ (owner_view (resumed_by old), (0, None) ∷ [])

-- a helper knew this and has taken the seat of this berth, with which nothing but answers was done
pub record IsTakenWith (home : SeatHeld) (old : HelperKnown) (after : Party) (seat : SeatHeld) : Type 0 where
  pub parked : SeatHeld
  pub of : IsOf home parked
  pub answered : OnlyAnswered parked seat
  pub after_is : after ≡ (helper_view (taken_by old (record { parked = parked; took = seat })), (0, None) ∷ [])

-- a helper knew this, and has found another word than that of a seat that rests
pub record IsMissed (old : HelperKnown) (after : Party) : Type 0 where
  pub found : ℕ
  pub other : found ≢ 1
  pub after_is : after ≡ (helper_view (missed_by old found), [])
