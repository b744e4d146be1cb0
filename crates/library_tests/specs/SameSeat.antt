-- What stays of a seat's holder whatever it does.
use Rattle.std.specs.Prelude.{◌≡◌}
use Rattle.heap_table.specs.CollectorHeld.{CollectorHeld}
use Rattle.heap_table.specs.SeatHeld.{SeatHeld}

-- it holds the same seat of the same table
pub record IsSameSeat (old new : SeatHeld) : Type 0 where
  pub same_table : new.table ≡ old.table
  pub same_heap : new.heap ≡ old.heap
  pub same_number : new.number ≡ old.number

-- it is a seat of the table of this collector
pub record IsOfTable (collector : CollectorHeld) (held : SeatHeld) : Type 0 where
  pub same_table : held.table ≡ collector.table
  pub same_heap : held.heap ≡ collector.heap

-- it holds the same table's collector
pub record IsSameTable (old new : CollectorHeld) : Type 0 where
  pub same_table : new.table ≡ old.table
  pub same_heap : new.heap ≡ old.heap
