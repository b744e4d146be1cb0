-- How a seat leaves.
use Rattle.std.specs.Prelude.{◌≡◌, ℕ, true, List, ◌++◌}
use Rattle.std.specs.List.{AllZip}
use Rattle.heap_model.specs.calls.SeatCalls.{leave_entries}
use Rattle.heap_table.specs.SeatHeld.{SeatHeld}

-- it is the same seat of the same table and heap, and has left by one call, with what it had of its own
pub record Leaves (old new : SeatHeld) : Type 0 where
  pub table_stays : new.table ≡ old.table
  pub heap_stays : new.heap ≡ old.heap
  pub number_stays : new.number ≡ old.number
  pub left : new.seat.left ≡ true
  pub unborn : ℕ
  pub mine : new.seat.mine ≡ old.seat.mine ++ leave_entries old.number unborn

-- each seat has left, and they stand in the same order
abbrev pub EachLeaves : List SeatHeld → List SeatHeld → Type 0
EachLeaves olds news = AllZip Leaves olds news
