-- The rule of the table: words and views are a state of the machine, for which some book stands.
use Rattle.std.specs.Prelude.{◌≡◌, ℕ, suc, true, ◌<◌, ◌≤◌, List, length, take, Option}
use mathlib.Core.Option.{Option as Found, none, some}
use lib.ListN.{get_elem?}
use Rattle.atomic_table.specs.Table.{State as Table}
use Rattle.heap_model.specs.declared.heap.Heap.{Heap}
use Rattle.core_machine.specs.machine.Machine.{State, seat_at}
use Rattle.core_machine.specs.machine.Opening.{opening_seat}
use Rattle.core_machine.specs.seat.Seat.{Seat}
use Rattle.core_rule.specs.Book.{Book}
use Rattle.core_rule.specs.Stands.{Stands}
use Rattle.heap_table.specs.Folded.{IsFolded, AllFolded, SeatsBefore}
use Rattle.heap_table.specs.Known.{CollectorKnown}
use Rattle.heap_table.specs.Views.{collector_view}
use Rattle.heap_table.specs.declared.view.View.{View}
use Rattle.heap_table.specs.declared.view.View.TheVariants.{OfSeat, OfCollector, Spent}

-- the seat is what the view of its holder tells; once that is spent, what the collector's holder keeps of it, and before it is handed out, as at the opening
abbrev pub IsSeatOf : Heap → List (Option Seat) → ℕ → Found View → Seat → Type 0
IsSeatOf heap seats number (some (OfSeat view)) seat = (view.known.number ≡ number) × (view.known.seat ≡ seat)
IsSeatOf heap seats number (some (OfCollector view)) seat = ⊥
IsSeatOf heap seats number (some Spent) seat = IsFolded seats number seat
IsSeatOf heap seats number none seat = seat ≡ opening_seat heap number

-- the state is that of these words and views: the first view is the collector's, and the seats' come behind it in their order
pub record IsStateOf (heap : Heap) (words : List ℕ) (views : List View) (state : State) (known : CollectorKnown) : Type 0 where
  pub words_are : state.words ≡ words
  pub knows : get_elem? views 0 ≡ some (collector_view known)
  pub collector_is : state.collector ≡ known.collector
  pub counted : length views ≡ suc known.handed
  pub few : known.handed ≤ heap.seats
  pub seat_slots : length known.seats ≡ heap.seats
  pub seats_are : (number : ℕ) → number < heap.seats → IsSeatOf heap known.seats number (get_elem? views (suc number)) (seat_at state number)
  -- a seat that was folded in has no view any more
  pub spent : (number : ℕ) (seat : Seat) → IsFolded known.seats number seat → get_elem? views (suc number) ≡ some Spent
  -- and has left
  pub gone : (number : ℕ) (seat : Seat) → IsFolded known.seats number seat → seat.left ≡ true
  -- what closing has read is the words' beginning
  pub closed_are : known.closed ≡ take (length known.closed) words
  -- once it has read one, no seat has a view any more
  pub still : 0 < length known.closed → (number : ℕ) → number < heap.seats → get_elem? views (suc number) ≡ some Spent

-- the rule: some book stands for the state, and once every seat was folded in none has told anything behind the phase of that moment
pub record Holds (heap : Heap) (table : Table (Unit {0}) View) : Type 0 where
  pub state : State
  pub known : CollectorKnown
  pub book : Book
  pub is : IsStateOf heap table.words table.views state known
  pub stands : Stands heap state book
  pub late : AllFolded heap known.seats → SeatsBefore known.folded book.history
