-- What stays of the parties of a table, whatever they do.
use Rattle.std.specs.Prelude.{◌≡◌}
use Rattle.heap_table.specs.CollectorHeld.{CollectorHeld}
use Rattle.heap_table.specs.SeatHeld.{SeatHeld}

-- it is the same seat of the same table
pub record StaysSeat (old new : SeatHeld) : Type 0 where
  pub table_stays : new.table ≡ old.table
  pub heap_stays : new.heap ≡ old.heap
  pub number_stays : new.number ≡ old.number

-- it is the collector of the same table
pub record StaysCollector (old new : CollectorHeld) : Type 0 where
  pub table_stays : new.table ≡ old.table
  pub heap_stays : new.heap ≡ old.heap

-- the seat is of this collector's table
pub record IsOfTable (collector : CollectorHeld) (held : SeatHeld) : Type 0 where
  pub table_is : held.table ≡ collector.table
  pub heap_is : held.heap ≡ collector.heap
