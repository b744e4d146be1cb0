-- What contracts see of a machine and of a seat's party.
use Rattle.std.specs.Prelude.{◌≡◌, ◌≢◌, ℕ, ◌+◌, ◌<◌, ◌≤◌, ◌==◌, if◌then◌else◌, ◌^◌, List, length, drop, slice_index_or, All, Option, Some}
use Rattle.heap_model.specs.declared.heap.Heap.{Heap}
use Rattle.heap_model.specs.declared.entry.Entry.{Entry}
use Rattle.heap_model.specs.Heap.{IsHeap}
use Rattle.core_machine.specs.declared.step.Step.{Step}
use Rattle.core_machine.specs.collector.Collector.{Collector, next_turn}
use Rattle.core_machine.specs.seat.Fits.{Fits, CollectorFits}
use Rattle.core_machine.specs.table.Layout.{table_length}
use Rattle.core_machine.specs.table.Decode.{PointersWithin}
use Rattle.core_machine.specs.Moves.{due_step}
use Rattle.core_machine.specs.seat.Seat.{Seat}
use Rattle.core_machine.specs.machine.Machine.{State, seat_at, Event, Steps, Turns}

-- a seat's data, for how many more entries it has room, and how many of its first entries were forgotten
pub record SeatWithRoom : Type 0 where
  pub seat : Seat
  pub spare : ℕ
  pub forgotten : ℕ

-- the seat lost no more room than its new entries take, and got none
abbrev pub KeepsRoom : SeatWithRoom → SeatWithRoom → Type 0
KeepsRoom old new = (old.spare + length old.seat.mine ≤ new.spare + length new.seat.mine) × (new.spare ≤ old.spare)

-- the collector's data, for how many more entries it has room, how many of its first entries were forgotten, and how many turns it has made, as far as 64 bits count them
pub record CollectorWithRoom : Type 0 where
  pub collector : Collector
  pub spare : ℕ
  pub forgotten : ℕ
  pub turns : ℕ

-- the heap, the state, for how many more entries each party has room, and how many of its first entries were forgotten, the collector last
pub record MachineValue : Type 0 where
  pub heap : Heap
  pub state : State
  pub spares : List ℕ
  pub forgotten : List ℕ

-- for how many more entries the party has room
abbrev pub spare_of : MachineValue → ℕ → ℕ
spare_of machine party = slice_index_or machine.spares party 0

-- how many of the party's first entries were forgotten
abbrev pub forgotten_of : MachineValue → ℕ → ℕ
forgotten_of machine party = slice_index_or machine.forgotten party 0

-- the party's entries: a seat's, or those of the collector, whose number is the one after the last seat's
abbrev pub log_of : MachineValue → ℕ → List Entry
log_of machine party =
    if party == length machine.state.seats then machine.state.collector.log else (seat_at machine.state party).mine

-- the party's entries behind those that were forgotten
abbrev pub recent_of : MachineValue → ℕ → List Entry
recent_of machine party = drop (forgotten_of machine party) (log_of machine party)

-- the number is a seat's or the collector's
abbrev pub IsParty : MachineValue → ℕ → Type 0
IsParty machine party = party ≤ length machine.state.seats

-- the one step that the party makes next
abbrev pub due_of : Heap → State → ℕ → Option Step
due_of heap state party =
    if party == length state.seats then Some (next_turn heap state.collector).step else due_step heap party (seat_at state party)

-- the event that the party's next step is
abbrev pub event_of : State → ℕ → Event
event_of state party = if party == length state.seats then Turns else Steps party

-- the party lost no more room than its new entries take, no party got any, no other lost any, and nothing was forgotten
pub record SpendsRoom (old new : MachineValue) (party : ℕ) : Type 0 where
  pub forgotten : new.forgotten ≡ old.forgotten
  pub own : spare_of old party + length (log_of old party) ≤ spare_of new party + length (log_of new party)
  pub no_more : spare_of new party ≤ spare_of old party
  pub others : (other : ℕ) → other ≢ party → spare_of new other ≡ spare_of old other

-- what is true of every machine: its table has 64-bit words that lead within the heap, and its parties' data fit together
pub record IsMachine (heap : Heap) (state : State) : Type 0 where
  pub limits : IsHeap heap
  pub table : length state.words ≡ table_length heap
  pub wide : All (λ word. word < 2 ^ 64) state.words
  pub leads : PointersWithin heap state.words
  pub seated : length state.seats ≡ heap.seats
  pub fit : (number : ℕ) → number < length state.seats → Fits heap (seat_at state number)
  pub collector_fit : CollectorFits heap state.collector
