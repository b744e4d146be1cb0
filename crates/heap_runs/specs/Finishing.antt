-- How a run on a table ends.
use Rattle.std.specs.Prelude.{◌≡◌, true, List, [], ◌∷◌, ◌++◌, map}
use Rattle.std.specs.List.{AllByRecursion}
use Rattle.atomic_table.specs.Seated.{TableId}
use Rattle.heap_model.specs.declared.entry.Entry.{Entry}
use Rattle.heap_model.specs.declared.heap.Heap.{Heap}
use Rattle.heap_model.specs.account.PhaseCounts.{has_left}
use Rattle.heap_model.specs.account.Space.{fragments_gained, fragments_lost, words_granted, words_returned}
use Rattle.heap_model.specs.account.Turned.{is_of_heap}
use Rattle.heap_model.specs.runs.Endings.{EndsBehindLeaves}
use Rattle.heap_table.specs.Closed.{ClosedTable, HasOneHistory}
use Rattle.heap_table.specs.Handing.{with_folded}
use Rattle.heap_table.specs.Known.{CollectorKnown}
use Rattle.heap_table.specs.SeatHeld.{SeatHeld}

-- the seat is one of the table, and has left, as its own list tells
pub record HasGone (table : TableId) (heap : Heap) (held : SeatHeld) : Type 0 where
  pub table_is : held.table ≡ table
  pub heap_is : held.heap ≡ heap
  pub left : held.seat.left ≡ true
  pub told : has_left held.number held.seat.mine ≡ true

-- what the collector's holder knows once it has folded in the seat as well
abbrev pub folded_in : CollectorKnown → SeatHeld → CollectorKnown
folded_in known held = with_folded known held.number held.seat

-- one legal history has exactly the logs, and the words stand for it; it ends with a cycle that began after every seat had left, and nothing is in use then
pub record EndsUnused (closed : ClosedTable) : Type 0 where
  pub one : HasOneHistory closed
  pub ends : EndsBehindLeaves closed.heap one.history
  pub none_used : fragments_gained closed.heap one.history ≡ fragments_lost one.history
  pub all_returned : words_granted one.history ≡ words_returned one.history

-- the logs are those of the seats, in their order, and behind them that of a collector which has gone on from these entries, with no answer to a command
pub record HasLogs (seats : List SeatHeld) (before : List Entry) (closed : ClosedTable) : Type 0 where
  pub turned : List Entry
  pub own : AllByRecursion (λ entry. is_of_heap entry ≡ true) turned
  pub logs_are : closed.logs ≡ map (λ held. held.seat.mine) seats ++ (before ++ turned) ∷ []
