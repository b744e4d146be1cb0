-- What is true of a seat with which nothing was done but that it answered phases.
use Rattle.std.specs.Prelude.{◌≡◌, ℕ, ◌+◌, ◌≤◌, ◌++◌, List, length}
use Rattle.std.specs.List.{All}
use Rattle.heap_model.specs.calls.SeatState.{own_graph}
use Rattle.heap_model.specs.declared.entry.Entry.{Entry}
use Rattle.heap_model.specs.declared.entry.Entry.TheVariants.{Answers}
use Rattle.core_machine.specs.calls.Kept.{Kept, kept_of}
use Rattle.core_machine.specs.seat.Looks.{seen_phase}
use Rattle.heap_table.specs.SeatHeld.{SeatHeld}
use Rattle.mutator_seat.specs.Resting.{seat_state}

-- the entry tells that this seat has answered a phase
abbrev pub IsAnswerOf : ℕ → Entry → Type 0
IsAnswerOf number (Answers seat phase) = seat ≡ number
IsAnswerOf number _ = ⊥

-- it has answered and seen these phases last, and else keeps what it kept
abbrev pub kept_answered : ℕ → ℕ → Kept → Kept
kept_answered answered seen kept = record kept { answered = answered; looks = seen_phase seen kept.looks }

-- it is the seat of the same number, table and heap; registers, reserve, counts and all else that it keeps are as they were but for the phases answered and seen last; it has told answers and no command, and no room was made
pub record OnlyAnswered (old new : SeatHeld) : Type 0 where
  pub table_stays : new.table ≡ old.table
  pub heap_stays : new.heap ≡ old.heap
  pub number_stays : new.number ≡ old.number
  pub kept_is : kept_of new.seat ≡ kept_answered new.seat.answered new.seat.looks.seen (kept_of old.seat)
  pub told : List Entry
  pub mine : new.seat.mine ≡ old.seat.mine ++ told
  pub answers : All (IsAnswerOf old.number) told
  -- what its own list tells of registers, objects and sets stays
  pub graph_stays : own_graph (seat_state new) ≡ own_graph (seat_state old)
  pub room_stays : old.spare + length old.seat.mine ≤ new.spare + length new.seat.mine
  pub no_more : new.spare ≤ old.spare
