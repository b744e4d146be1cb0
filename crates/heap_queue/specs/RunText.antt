-- What the text of a queue's run tells.
use Rattle.std.specs.Prelude.{◌≡◌, ℕ, ◌<◌, List, [], ◌++◌, slice_index_or}
use Rattle.heap_model.specs.Logs.{logs_of}
use Rattle.heap_model.specs.declared.entry.Entry.{Entry}
use Rattle.heap_model.specs.declared.heap.Heap.{Heap}
use Rattle.heap_model.specs.graph.Legal.{IsObjectLegal}
use Rattle.script_text.specs.Text.{text_of}
use Rattle.heap_table.specs.Closed.{ClosedTable}
use Rattle.collector_turns.specs.Collector.{CollectorValue}
use Rattle.heap_queue.specs.declared.queue_command.QueueCommand.{QueueCommand}
use Rattle.heap_queue.specs.declared.queue_run.QueueRan.{QueueRan}
use Rattle.heap_queue.specs.declared.told.ToldCall.{ToldCall}
use Rattle.heap_queue.specs.Calls.{Call, calls_in}
use Rattle.heap_queue.specs.Effects.{AreQueueLegal, start}
use Rattle.heap_queue.specs.QueueLines.{queue_lines}
use Rattle.heap_queue.specs.Running.{IsQueueRan, script_at}
use Rattle.heap_queue.specs.Serving.{first_calls}
use Rattle.heap_queue.specs.Telling.{effects_in, told_of}
use Rattle.heap_queue.specs.ToldBySeat.{TellEach, told_by, told_in}

-- what is told of the seat of this number: its commands in their order, each once, by the puts and takes that end in its log, and each with the reply that the heap calls of the log gave
pub record TellsSeat (number : ℕ) (script : List QueueCommand) (log : List Entry) (calls : List ToldCall) : Type 0 where
  pub served : List Call
  pub ended : calls_in (start 0 number) log ≡ first_calls number ++ served
  pub shown : told_by number calls ≡ told_in number log
  pub each : TellEach script served (told_by number calls)

-- the text tells just the puts and takes of a history that is legal by objects and has the logs, in its order; they are those of one queue, empty at first, in which a take gets the front;
-- and of each seat it tells its script
pub record TellsQueue (heap : Heap) (scripts : List (List QueueCommand)) (closed : ClosedTable) (text : List ℕ) : Type 0 where
  pub history : List Entry
  pub objects : IsObjectLegal heap history
  pub logs : closed.logs ≡ logs_of heap history
  pub calls : List ToldCall
  pub told : calls ≡ told_of heap 0 history
  pub rendered : text ≡ text_of (queue_lines heap calls)
  pub legal : AreQueueLegal (effects_in calls)
  pub each : (number : ℕ) → number < heap.seats → TellsSeat number (script_at scripts number) (slice_index_or closed.logs number []) calls

-- the seats served these scripts on a table of this heap, which opened for it
pub record HasRunQueue (heap : Heap) (scripts : List (List QueueCommand)) (ran : QueueRan) : Type 0 where
  pub collector : CollectorValue
  pub of_heap : collector.holder.heap ≡ heap
  pub opened : collector.holder.known.collector.log ≡ []
  pub whole : IsQueueRan scripts collector ran

-- they served some scripts
abbrev pub IsRunOn : Heap → QueueRan → Type 0
IsRunOn heap ran = (scripts : List (List QueueCommand)) × HasRunQueue heap scripts ran
