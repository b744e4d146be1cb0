-- What the holders of one table know.
use Rattle.std.specs.Prelude.{ℕ, List, [], replicate, Option, None}
use Rattle.heap_model.specs.declared.heap.Heap.{Heap}
use Rattle.core_machine.specs.collector.Collector.{Collector, opening_collector}
use Rattle.core_machine.specs.seat.Seat.{Seat}

-- what a seat's holder knows: the seat's number and its data
pub record SeatKnown : Type 0 where
  pub number : ℕ
  pub seat : Seat

-- what the collector's holder knows
pub record CollectorKnown : Type 0 where
  -- the collector's data
  pub collector : Collector
  -- how many seats were handed out
  pub handed : ℕ
  -- the data of each seat that was folded in, by its number
  pub seats : List (Option Seat)
  -- the phase in which the last of them was
  pub folded : ℕ
  -- the words that closing has read, from the first on
  pub closed : List ℕ

-- what the collector's holder knows when the heap opens
abbrev pub opening_known : Heap → CollectorKnown
opening_known heap = record { collector = opening_collector; handed = 0; seats = replicate heap.seats None; folded = 0; closed = [] }
