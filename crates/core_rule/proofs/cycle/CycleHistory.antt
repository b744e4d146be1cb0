-- What stays of the phases when the history grows by an entry that begins and answers none.
use Rattle.std.proofs.Common.{◌≡◌, ℕ, List, [], ◌∷◌, ◌++◌, false, sym, subst}
use Rattle.core_rule.proofs.Terms.{Entry, Heap, effect_of, is_of, phase, last_answer, has_left, is_leave_of, Seat, Colour, HeapInCycle, SeatInCycle, Owner}
use Rattle.core_rule.proofs.cycle.CycleFrames.{seat_in_cycle_as_told}
use Rattle.core_rule.proofs.entries.PhaseEntries.{phase_stays, answered_stays, answered_stays_by_other, left_stays, entry_is_no_leave}

module _ (heap : Heap) (words : List ℕ) (owner : ℕ → Owner) (colour : ℕ → Colour) (history : List Entry) (entry : Entry) (none : (effect_of entry).phases ≡ 0) where
  pub heap_in_cycle_after_entry : (fragments : ℕ → List ℕ) → HeapInCycle heap words (phase history) owner colour fragments → HeapInCycle heap words (phase (history ++ entry ∷ [])) owner colour fragments
  heap_in_cycle_after_entry fragments cycle = subst (λ p. HeapInCycle heap words p owner colour fragments) (sym (phase_stays history entry none)) cycle

  module _ (number : ℕ) (seat : Seat) (cycle : SeatInCycle heap words (phase history) (last_answer number history) (has_left number history) owner colour number seat) where
    -- it is another's
    pub seat_in_cycle_after_other : is_of number entry ≡ false → SeatInCycle heap words (phase (history ++ entry ∷ [])) (last_answer number (history ++ entry ∷ [])) (has_left number (history ++ entry ∷ [])) owner colour number seat
    seat_in_cycle_after_other other = seat_in_cycle_as_told heap words _ _ _ _ _ _ owner colour number seat (phase_stays history entry none) (answered_stays_by_other history entry number other)
        (left_stays history entry number (entry_is_no_leave history entry number other)) cycle

    -- it is the seat's
    pub seat_in_cycle_after_own : (effect_of entry).answers ≡ 0 → is_leave_of number entry ≡ false
        → SeatInCycle heap words (phase (history ++ entry ∷ [])) (last_answer number (history ++ entry ∷ [])) (has_left number (history ++ entry ∷ [])) owner colour number seat
    seat_in_cycle_after_own silent stays = seat_in_cycle_as_told heap words _ _ _ _ _ _ owner colour number seat (phase_stays history entry none) (answered_stays history entry number silent)
        (left_stays history entry number stays) cycle
