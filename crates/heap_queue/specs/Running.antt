-- What a run of a queue is given, and what it has come to once its table is closed.
use Rattle.std.specs.Prelude.{◌≡◌, ℕ, ◌*◌, ◌≤◌, List, [], length, map, slice_index_or, All}
use Rattle.std.specs.List.{range_with_len}
use Rattle.atomic_table.specs.Seated.{TableId}
use Rattle.heap_model.specs.Limits.{group_fragments}
use Rattle.heap_model.specs.Logs.{logs_of}
use Rattle.heap_model.specs.Needs.{record_fragments}
use Rattle.heap_model.specs.declared.entry.Entry.{Entry}
use Rattle.heap_model.specs.declared.heap.Heap.{Heap}
use Rattle.heap_model.specs.graph.Legal.{IsObjectLegal}
use Rattle.log_merge.specs.FewSets.{HaveFewSets}
use Rattle.heap_table.specs.SeatHeld.{SeatHeld}
use Rattle.collector_turns.specs.Collector.{CollectorValue}
use Rattle.heap_runs.specs.CollectCall.{IsPresent}
use Rattle.heap_runs.specs.Finishing.{HasLogs, EndsUnused}
use Rattle.heap_runs.specs.SeatWork.{IsOfTable}
use Rattle.heap_queue.specs.declared.queue_command.QueueCommand.{QueueCommand}
use Rattle.heap_queue.specs.declared.queue_run.QueueRan.{QueueRan}
use Rattle.heap_queue.specs.declared.queue_fault.QueueFault.{QueueFault}
use Rattle.heap_queue.specs.declared.queue_fault.QueueFault.TheVariants.{Full, Memory}
use Rattle.heap_queue.specs.Histories.{IsQueueHistory}
use Rattle.heap_queue.specs.Served.{HasServed}
use Rattle.heap_queue.specs.Serving.{IsQueueCommand}

-- the most commands of a seat's script
abbrev pub most_commands : ℕ
most_commands = 1048576

-- a seat's script: not too many puts and takes
abbrev pub IsQueueScript : List QueueCommand → Type 0
IsQueueScript script = (length script ≤ most_commands) × All IsQueueCommand script

-- the script of the seat of this number
abbrev pub script_at : List (List QueueCommand) → ℕ → List QueueCommand
script_at scripts number = slice_index_or scripts number []

-- the seat is one of the table, hasn't left, and has told nothing, so it has made no object and done no set
pub record IsUntouched (table : TableId) (heap : Heap) (seat : SeatHeld) : Type 0 where
  pub of_table : IsOfTable table heap seat
  pub present : IsPresent seat
  pub silent : seat.seat.mine ≡ []

-- these are all seats of the collector's table, in the order of their numbers, each of them untouched; there is a script for each, and the board has fields for the queue's first and last node
pub record MayRunQueue (seats : List SeatHeld) (collector : CollectorValue) (scripts : List (List QueueCommand)) : Type 0 where
  pub numbered : map (λ seat. seat.number) seats ≡ range_with_len 0 collector.holder.heap.seats
  pub untouched : All (IsUntouched collector.holder.table collector.holder.heap) seats
  pub scripted : length scripts ≡ collector.holder.heap.seats
  pub fit : All IsQueueScript scripts
  pub board : 2 ≤ collector.holder.heap.board

-- each seat has served its script and left; the logs of the closed table are those of the seats, in the order of their numbers, and that of the collector, which has gone on, and each has few sets; each legal
-- history with exactly these logs is one of the queue that the first seat makes; one such history is there, the words stand for it, and at its end nothing is in use
pub record IsQueueRan (scripts : List (List QueueCommand)) (collector : CollectorValue) (ran : QueueRan) : Type 0 where
  pub of_heap : ran.closed.heap ≡ collector.holder.heap
  pub seats : List SeatHeld
  pub numbered : map (λ seat. seat.number) seats ≡ range_with_len 0 collector.holder.heap.seats
  pub served : All (λ seat. HasServed seat.number (script_at scripts seat.number) seat.seat.mine) seats
  pub logs : HasLogs seats collector.holder.known.collector.log ran.closed
  pub few : HaveFewSets ran.closed.logs
  pub orders : (history : List Entry) → IsObjectLegal collector.holder.heap history → ran.closed.logs ≡ logs_of collector.holder.heap history → IsQueueHistory collector.holder.heap 0 history
  pub unused : EndsUnused ran.closed

-- no queue was made, since the board has every fragment of the heap and the queue's first node needs one; or memory was wanting
abbrev pub IsFaultOf : Heap → QueueFault → Type 0
IsFaultOf heap (Full need found) = (need ≡ 1) × (found ≡ 0) × (group_fragments * heap.groups ≡ record_fragments heap.board)
IsFaultOf heap Memory = Unit {0}
