-- What one thread of a run is given, and what it has done.
use Rattle.std.specs.Prelude.{List, All}
use Rattle.atomic_table.specs.Seated.{TableId}
use Rattle.heap_model.specs.declared.heap.Heap.{Heap}
use Rattle.heap_table.specs.SeatHeld.{SeatHeld}
use Rattle.heap_queue.specs.declared.queue_command.QueueCommand.{QueueCommand}
use Rattle.heap_queue.specs.declared.workers.Task.{Task}
use Rattle.heap_queue.specs.declared.workers.Task.TheVariants.{Serve, Slack}
use Rattle.heap_queue.specs.Working.{IsReadyToServe, HaveWorked}

-- the seats of the task may serve their scripts
abbrev pub IsTask : TableId → Heap → List (List QueueCommand) → Task → Type 0
IsTask table heap scripts (Serve seats) = All (IsReadyToServe table heap scripts) seats.items
IsTask table heap scripts Slack = Unit {0}

-- the seats of the task have served their scripts
abbrev pub EndsTask : TableId → Heap → List (List QueueCommand) → Task → List SeatHeld → Type 0
EndsTask table heap scripts (Serve seats) done = HaveWorked table heap scripts seats.items done
EndsTask table heap scripts Slack done = Unit {0}
