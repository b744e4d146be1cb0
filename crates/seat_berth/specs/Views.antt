-- The views of a berth's parties, and what each step makes of them.
use Rattle.std.specs.Prelude.{ℕ, List, [], ◌∷◌, Option, Some, None, option_map}
use Rattle.std.specs.declared.alloc.Global.{Global}
use Rattle.std.specs.declared.boxed.Box.{Box}
use Rattle.heap_table.specs.SeatHeld.{SeatHeld}
use Rattle.seat_berth.specs.Known.{OwnerKnown, HelperKnown, Taken, Handed, opening_owner, opening_helper}
use Rattle.seat_berth.specs.declared.view.View.{View}
use Rattle.seat_berth.specs.declared.view.View.TheVariants.{Opening, OfOwner, OfHelper}

-- what the slot has: a box of the seat, or none
abbrev pub Slot : Type 0
Slot = Option (Box SeatHeld Global)

-- the slot of this box
abbrev pub slot_of : Box SeatHeld Global → Slot
slot_of boxed = Some boxed

abbrev pub owner_view : OwnerKnown → View
owner_view known = OfOwner (record { known = known })

abbrev pub helper_view : HelperKnown → View
helper_view known = OfHelper (record { known = known })

-- what an owner knows by its view; of any other view, nothing
abbrev pub owner_by : View → OwnerKnown
owner_by Opening = opening_owner
owner_by (OfOwner view) = view.known
owner_by (OfHelper view) = opening_owner

-- what a helper knows by its view, likewise
abbrev pub helper_by : View → HelperKnown
helper_by Opening = opening_helper
helper_by (OfOwner view) = opening_helper
helper_by (OfHelper view) = view.known

-- the seat in the slot that a party has taken last
abbrev pub seat_carried : List (ℕ × Slot) → Option SeatHeld
seat_carried [] = None
seat_carried (slot ∷ slots) = option_map (λ (boxed : Box SeatHeld Global). boxed.value) slot.1

-- the owner after it handed this seat in
abbrev pub parked_by : OwnerKnown → Option SeatHeld → OwnerKnown
parked_by known seat = record known { parked = seat }

-- the owner after it had its seat back
abbrev pub resumed_by : OwnerKnown → OwnerKnown
resumed_by known = record { parked = None; words = 1 ∷ known.words }

-- the owner after it found this word and not its seat
abbrev pub refused_by : OwnerKnown → ℕ → OwnerKnown
refused_by known found = record known { words = found ∷ known.words }

-- the helper after it took the seat
abbrev pub taken_by : HelperKnown → Taken → HelperKnown
taken_by known taken = record known { has = Some taken; words = 1 ∷ known.words }

-- the helper after it found this word and not the seat
abbrev pub missed_by : HelperKnown → ℕ → HelperKnown
missed_by known found = record known { words = found ∷ known.words }

-- which seats the helper had, after it gave this one back
abbrev pub had_by : List Handed → Option Taken → Option SeatHeld → List Handed
had_by had (Some taken) (Some seat) = record { took = taken.took; gave = seat } ∷ had
had_by had (Some taken) None = had
had_by had None seat = had

-- the helper after it gave this seat back
abbrev pub given_by : HelperKnown → Option SeatHeld → HelperKnown
given_by known seat = record known { has = None; had = had_by known.had known.has seat }
