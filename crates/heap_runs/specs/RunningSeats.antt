-- What a run on a shared table comes to.
use Rattle.std.specs.Prelude.{◌≡◌, ℕ, List, map, All}
use Rattle.std.specs.List.{range_with_len}
use Rattle.heap_model.specs.declared.command.Command.{Command}
use Rattle.heap_table.specs.SeatHeld.{SeatHeld}
use Rattle.collector_turns.specs.Collector.{CollectorValue}
use Rattle.heap_runs.specs.declared.running_seats.Ran.{Ran}
use Rattle.heap_runs.specs.Finishing.{HasLogs, EndsUnused}
use Rattle.heap_runs.specs.SeatWork.{HaveWorked, IsReadyToWork}

-- these are all seats of the collector's table, in the order of their numbers, and each may work on the script of its number
pub record MayRun (seats : List SeatHeld) (collector : CollectorValue) (scripts : List (List Command)) : Type 0 where
  pub numbers : map (λ held. held.number) seats ≡ range_with_len 0 collector.holder.heap.seats
  pub ready : All (IsReadyToWork collector.holder.table collector.holder.heap scripts) seats

-- each seat has worked on the script of its number and left; the logs are theirs, and that of the collector, which has gone on; how often each has found another behind is told; one
-- legal history has exactly these logs, the words stand for it, and at its end nothing is in use
pub record IsRanOf (patience : ℕ) (scripts : List (List Command)) (seats : List SeatHeld) (collector : CollectorValue) (ran : Ran) : Type 0 where
  pub of_heap : ran.closed.heap ≡ collector.holder.heap
  pub worked : List SeatHeld
  pub have_worked : HaveWorked patience scripts seats worked
  pub logs : HasLogs worked collector.holder.known.collector.log ran.closed
  pub counts : ran.waits.items ≡ map (λ held. held.seat.looks.waits) worked
  pub unused : EndsUnused ran.closed
