-- Each move leaves the seat's own list and the entry that is still awaited as the history grows.
use Rattle.std.proofs.Common.{◌≡◌, ℕ, List, [], ◌++◌, refl, append-nil}
use Rattle.core_machine.proofs.Terms.{Heap, entries_awaited, gather_next, Seat, Move, seat_after, State, found_by, state_after_move}
use Rattle.core_machine.proofs.seat_lemmas.Fitting.{goes_on_cases}

-- the seat's entries are left to what the move adds, and with what is awaited they are the history's
pub record Adds (heap : Heap) (now : State) (number : ℕ) (seat : Seat) (move : Move) : Type 0 where
  pub kept : (move.told (found_by heap now move.step)).mine ≡ seat.mine
  pub told : move.adds (found_by heap now move.step) ++ entries_awaited heap (state_after_move heap now number move).words number (seat_after move (found_by heap now move.step))
      ≡ entries_awaited heap now.words number seat ++ move.shows now.words (found_by heap now move.step)

-- going on adds no entry
pub own_list_same_going_on : (heap : Heap) (seat : Seat) → (gather_next heap seat).mine ≡ seat.mine
own_list_same_going_on heap seat = goes_on_cases (λ s. s.mine ≡ seat.mine) heap seat (λ enough. refl) (λ few left. refl) (λ few all. refl)

module _ (heap : Heap) (now : State) (number : ℕ) (seat : Seat) where
  -- the words after a step
  abbrev pub after_words : Move → List ℕ
  after_words move = (state_after_move heap now number move).words

  -- where nothing is awaited before and after, the entries stand in the history at once
  pub adds_where_none_awaited : (move : Move) → (move.told (found_by heap now move.step)).mine ≡ seat.mine → entries_awaited heap now.words number seat ≡ []
      → entries_awaited heap (after_words move) number (seat_after move (found_by heap now move.step)) ≡ []
      → move.shows now.words (found_by heap now move.step) ≡ move.adds (found_by heap now move.step) → Adds heap now number seat move
  adds_where_none_awaited move kept before gone same =
      record { kept = kept; told = rw (before, gone, same) (append-nil (move.adds (found_by heap now move.step))) }
