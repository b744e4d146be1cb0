-- What a worker of a queue is given, and what it has done at its end.
use Rattle.std.specs.Prelude.{◌≡◌, ℕ, ◌<◌, List, length, slice_get, All, Some, Result, IfOk}
use Rattle.atomic_table.specs.Seated.{TableId}
use Rattle.heap_model.specs.Limits.{stamp_limit}
use Rattle.heap_model.specs.declared.fault.Memory.{Memory}
use Rattle.heap_model.specs.declared.heap.Heap.{Heap}
use Rattle.heap_table.specs.SeatHeld.{SeatHeld}
use Rattle.mutator_seat.specs.Resting.{seat_state}
use Rattle.heap_runs.specs.Finishing.{HasGone}
use Rattle.heap_runs.specs.SeatWork.{IsOfTable, sets_of}
use Rattle.heap_queue.specs.declared.queue_command.QueueCommand.{QueueCommand}
use Rattle.heap_queue.specs.Running.{script_at}
use Rattle.heap_queue.specs.Served.{HasServed}
use Rattle.heap_queue.specs.Serving.{IsQueueCommand, HasLeftFor, HasBegun}

-- the queue is made, the seat hasn't left, and it has names and stamps for the script
pub record MayServe (script : List QueueCommand) (seat : SeatHeld) : Type 0 where
  pub in_range : All IsQueueCommand script
  pub may : HasLeftFor (length script) (seat_state seat)
  pub begun : HasBegun seat.number seat.seat.mine

-- the seat is one of the table, has a script, and may serve it
pub record IsReadyToServe (table : TableId) (heap : Heap) (scripts : List (List QueueCommand)) (seat : SeatHeld) : Type 0 where
  pub of_table : IsOfTable table heap seat
  pub scripted : seat.number < length scripts
  pub may : MayServe (script_at scripts seat.number) seat

-- the seat of this number has served its script and left, is of the table, and has done fewer sets than it has stamps
pub record HasWorked (table : TableId) (heap : Heap) (number : ℕ) (script : List QueueCommand) (seat : SeatHeld) : Type 0 where
  pub number_is : seat.number ≡ number
  pub served : HasServed number script seat.seat.mine
  pub gone : HasGone table heap seat
  pub few : sets_of seat < stamp_limit

-- each worker that came to its end has served the script of its seat's number, and they stand in the same order
pub record HaveEnded (table : TableId) (heap : Heap) (scripts : List (List QueueCommand)) (olds : List SeatHeld) (ends : List (Result SeatHeld Memory)) : Type 0 where
  pub each_once : length ends ≡ length olds
  pub each : (position : ℕ) (old : SeatHeld) (end : Result SeatHeld Memory) → slice_get olds position ≡ Some old → slice_get ends position ≡ Some end
      → IfOk end (HasWorked table heap old.number (script_at scripts old.number))

-- each seat has served the script of its number and left, and they stand in the same order
pub record HaveWorked (table : TableId) (heap : Heap) (scripts : List (List QueueCommand)) (olds news : List SeatHeld) : Type 0 where
  pub each_once : length news ≡ length olds
  pub each : (position : ℕ) (old new : SeatHeld) → slice_get olds position ≡ Some old → slice_get news position ≡ Some new → HasWorked table heap old.number (script_at scripts old.number) new
