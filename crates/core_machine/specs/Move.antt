-- What one step of a seat does: what is due, what it does to the seat, and what it adds to the seat's entries and to the history.
use Rattle.std.specs.Prelude.{ℕ, List}
use Rattle.heap_model.specs.declared.entry.Entry.{Entry}
use Rattle.core_machine.specs.declared.step.Step.{Step}
use Rattle.core_machine.specs.seat.Seat.{Seat, with_entries}

-- one step of a seat: what it does to a word, to the seat's data and to the entries
pub record Move : Type 0 where
  -- the step that is due
  pub step : Step
  -- the seat after it, by the word found; the seat's entries are left as they are
  pub told : ℕ → Seat
  -- what it adds to the seat's own entries, by the word found
  pub adds : ℕ → List Entry
  -- what it adds to the history, by all words before the step and the word found
  pub shows : List ℕ → ℕ → List Entry

-- a move whose entries stand in the history as soon as in the seat's own list
abbrev pub plain_move : Step → (ℕ → Seat) → (ℕ → List Entry) → Move
plain_move step told adds = record { step = step; told = told; adds = adds; shows = λ words found. adds found }

-- the seat after a move that found this word
abbrev pub seat_after : Move → ℕ → Seat
seat_after move found = with_entries (move.told found) (move.adds found)
