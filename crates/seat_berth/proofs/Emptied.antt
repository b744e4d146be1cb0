-- What a party has once it has taken the seat out of the slot.
use Rattle.std.proofs.Common.{◌≡◌, ◌≢◌, ℕ, [], ◌∷◌, List, Option, Some, None, IfSome, refl, sym, ap, subst, ◌∙◌}
use Rattle.std.specs.declared.alloc.Global.{Global}
use Rattle.std.specs.declared.boxed.Box.{Box}
use Rattle.atomic_table.specs.Table.{rest}
use Rattle.heap_table.specs.SeatHeld.{SeatHeld}
use Rattle.seat_berth.specs.Known.{HelperKnown, Taken}
use Rattle.seat_berth.specs.OnlyAnswered.{OnlyAnswered}
use Rattle.seat_berth.specs.Owned.{IsBackWith, IsTakenWith, IsMissed}
use Rattle.seat_berth.specs.Plays.{Party, HasBack, Resumed, HasTaken, Took}
use Rattle.seat_berth.specs.Views.{Slot, slot_of, owner_view, helper_view, owner_by, helper_by, seat_carried, resumed_by, taken_by}
use Rattle.seat_berth.specs.declared.view.View.{View}

-- a seat, or this one where there is none
seat_or : SeatHeld → Option SeatHeld → SeatHeld
seat_or other None = other
seat_or other (Some seat) = seat

module _ (before after final : Party) (boxed : Box SeatHeld Global) (empty : before.1 ≡ []) (in_slot : after.1 ≡ (0, slot_of boxed) ∷ rest after.1) (emptied : final ≡ (after.0, (0, None) ∷ rest after.1)) where
  -- the seat in the slot is the one that was taken
  same_seat : (other : Box SeatHeld Global) → after.1 ≡ (0, slot_of other) ∷ before.1 → other.value ≡ boxed.value
  unfolding seat_or
  same_seat other is = ap (λ (l : List (ℕ × Slot)). seat_or boxed.value (seat_carried l)) (sym is ∙ in_slot)

  -- the party after that, by its view behind the try
  emptied_view : (view : View) (other : Box SeatHeld Global) → after ≡ (view, (0, slot_of other) ∷ before.1) → final ≡ (view, (0, None) ∷ [])
  emptied_view view other is = emptied ∙ ap (λ (m : Party). (m.0, (0, None) ∷ rest m.1)) is ∙ ap (λ (l : List (ℕ × Slot)). (view, (0, None) ∷ l)) empty

  pub back_with : (found : ℕ) → found ≡ 1 → Resumed before found after → IsBackWith (owner_by before.0) final boxed.value
  back_with found is resumed =
      let back = resumed.rested is in
      record {
        answered = subst (λ (s : SeatHeld). IfSome (owner_by before.0).parked (λ parked. OnlyAnswered parked s)) (same_seat back.boxed (ap (λ (m : Party). m.1) back.after_is)) back.answered;
        after_is = emptied_view (owner_view (resumed_by (owner_by before.0))) back.boxed back.after_is;
      }

  pub taken_with : (home : SeatHeld) (found : ℕ) → found ≡ 1 → Took home before found after → IsTakenWith home (helper_by before.0) final boxed.value
  taken_with home found is took =
      let taken = took.rested is in
      let same = same_seat taken.boxed (ap (λ (m : Party). m.1) taken.after_is) in
      record {
        parked = taken.parked;
        of = taken.of;
        answered = subst (λ (s : SeatHeld). OnlyAnswered taken.parked s) same taken.answered;
        after_is = subst (λ (s : SeatHeld). final ≡ (helper_view (taken_by (helper_by before.0) (record { parked = taken.parked; took = s })), (0, None) ∷ [])) same
            (emptied_view (helper_view (taken_by (helper_by before.0) (record { parked = taken.parked; took = taken.boxed.value }))) taken.boxed taken.after_is);
      }
