-- What is true of a table that opens.
use Rattle.std.specs.Prelude.{◌≡◌, ℕ, ◌<◌}
use Rattle.atomic_table.specs.Seated.{TableId}
use Rattle.heap_model.specs.declared.heap.Heap.{Heap}
use Rattle.core_machine.specs.machine.Opening.{opening_seat}
use Rattle.core_machine.specs.seat.Fits.{Fits}
use Rattle.core_rule.specs.told.Told.{IsAsTold}
use Rattle.heap_table.specs.Begun.{NextHasWord}
use Rattle.heap_table.specs.SeatHeld.{SeatHeld}

-- each seat's data fit together, and whatever it begins first, its first step has its word
abbrev pub EachOpens : Heap → Type 0
EachOpens heap = (number : ℕ) → number < heap.seats → NextHasWord heap number (opening_seat heap number) × Fits heap (opening_seat heap number) × IsAsTold heap number (opening_seat heap number)

-- the holder is of the table, and its seat is as at the opening
pub record IsOpened (table : TableId) (heap : Heap) (held : SeatHeld) : Type 0 where
  pub table_is : held.table ≡ table
  pub heap_is : held.heap ≡ heap
  pub seat_is : held.seat ≡ opening_seat heap held.number
