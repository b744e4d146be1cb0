-- What is known once every seat was folded in and every word was read.
use Rattle.std.specs.Prelude.{◌≡◌, ℕ, ◌<◌, true, false, List, [], ◌∷◌, ◌++◌, map, length, Option}
use Rattle.std.specs.Option.{option_map_or}
use Rattle.heap_model.specs.declared.entry.Entry.{Entry}
use Rattle.heap_model.specs.declared.heap.Heap.{Heap}
use Rattle.heap_model.specs.Logs.{logs_of}
use Rattle.heap_model.specs.account.Account.{IsLegal}
use Rattle.core_machine.specs.machine.Machine.{State, seat_at}
use Rattle.core_machine.specs.machine.Value.{SeatWithRoom}
use Rattle.core_machine.specs.table.Layout.{table_length}
use Rattle.core_rule.specs.Book.{Book}
use Rattle.core_rule.specs.Stands.{Stands}
use Rattle.heap_table.specs.Folded.{IsFolded, SeatsBefore}
use Rattle.heap_table.specs.Known.{CollectorKnown}

-- a book stands for the words and for all that the collector's holder knows of its own and of the seats, which have left
pub record IsWhole (heap : Heap) (known : CollectorKnown) : Type 0 where
  pub state : State
  pub book : Book
  pub stands : Stands heap state book
  pub words_are : state.words ≡ known.closed
  pub seats_are : (number : ℕ) → number < heap.seats → IsFolded known.seats number (seat_at state number)
  pub gone : (number : ℕ) → number < heap.seats → (seat_at state number).left ≡ true
  pub collector_is : state.collector ≡ known.collector
  pub late : SeatsBefore known.folded book.history

-- so it is once closing has read every word
abbrev pub EndsWhole : Heap → CollectorKnown → Type 0
EndsWhole heap known = length known.closed ≡ table_length heap → IsWhole heap known

-- so it is with these words as those that closing read
abbrev pub AreWordsOf : Heap → CollectorKnown → List ℕ → Type 0
AreWordsOf heap known words = IsWhole heap (record known { closed = words })

-- what contracts see of a closed table: its heap, its words, the logs by seat and the collector's behind them, and the phase in which the last seat was folded in
pub record ClosedTable : Type 0 where
  pub heap : Heap
  pub words : List ℕ
  pub logs : List (List Entry)
  pub folded : ℕ

-- the logs of the seats in these slots; none's is empty
abbrev pub logs_in : List (Option SeatWithRoom) → List (List Entry)
logs_in seat_slots = map (λ slot. option_map_or (λ party. party.seat.mine) slot []) seat_slots

-- the log of each seat that was folded in, by the seats' numbers, and the collector's behind them
abbrev pub logs_known : CollectorKnown → List (List Entry)
logs_known known = map (λ slot. option_map_or (λ seat. seat.mine) slot []) known.seats ++ known.collector.log ∷ []

-- one legal history has exactly these logs; a book with it stands for the words; in it every entry of a seat stands before each phase above `folded`
pub record HasOneHistory (closed : ClosedTable) : Type 0 where
  pub history : List Entry
  pub legal : IsLegal closed.heap false history
  pub logs_are : closed.logs ≡ logs_of closed.heap history
  pub state : State
  pub book : Book
  pub stands : Stands closed.heap state book
  pub its_history : book.history ≡ history
  pub words_are : state.words ≡ closed.words
  pub seats_before : SeatsBefore closed.folded history

-- with these as its last words, one legal history has exactly what each seat that was folded in and the collector told
abbrev pub HaveOneHistory : Heap → CollectorKnown → List ℕ → Type 0
HaveOneHistory heap known words = HasOneHistory (record { heap = heap; words = words; logs = logs_known known; folded = known.folded })

-- what contracts see of a table that was closed without logs: its heap, its words, and the phase in which the last seat was folded in
pub record LastWords : Type 0 where
  pub heap : Heap
  pub words : List ℕ
  pub folded : ℕ

-- there is each word of the table, and a book stands for them; every seat has left, and no entry of one stands behind a phase above `folded`
pub record AreLastWords (closed : LastWords) : Type 0 where
  pub each : length closed.words ≡ table_length closed.heap
  pub state : State
  pub book : Book
  pub stands : Stands closed.heap state book
  pub words_are : state.words ≡ closed.words
  pub gone : (number : ℕ) → number < closed.heap.seats → (seat_at state number).left ≡ true
  pub seats_before : SeatsBefore closed.folded book.history
