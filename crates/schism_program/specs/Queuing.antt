-- What a run of a queue comes to.
use Rattle.std.specs.Prelude.{◌≡◌, ℕ, ◌*◌, ◌<◌, ◌⊎◌, List, Option, Some, None, IsSomeAnd}
use Rattle.heap_model.specs.declared.heap.Heap.{Heap}
use Rattle.heap_model.specs.Limits.{group_fragments}
use Rattle.heap_model.specs.Needs.{record_fragments}
use Rattle.script_text.specs.declared.cause.Cause.{Cause}
use Rattle.script_text.specs.Text.{text_of}
use Rattle.heap_table.specs.Closed.{ClosedTable}
use Rattle.heap_queue.specs.declared.queue_run.QueueRan.{QueueRan}
use Rattle.heap_queue.specs.declared.queue_script.QueueScript.{QueueScript}
use Rattle.heap_queue.specs.QueueLines.{full_lines}
use Rattle.heap_queue.specs.QueueText.{IsQueueText, first_queue_fault}
use Rattle.heap_queue.specs.RunText.{HasRunQueue, TellsQueue}
use Rattle.heap_queue.specs.SeatScripts.{seat_scripts}

-- the input is a queue's text
abbrev pub IsQueueInput : List ℕ → Type 0
IsQueueInput input = (script : QueueScript) × IsQueueText input script

-- the first fault of the input as a queue's text is this line's cause
abbrev pub FailsAsQueue : List ℕ → ℕ → Cause → Type 0
FailsAsQueue input line cause = first_queue_fault input ≡ Some (record { line = line; cause = cause })

-- the board has every fragment of the heap, so the queue's first node found none: the text says so, and no table is left
pub record FindsNoRoom (heap : Heap) (text : List ℕ) (closed : Option ClosedTable) : Type 0 where
  pub all_taken : group_fragments * heap.groups ≡ record_fragments heap.board
  pub says : text ≡ text_of (full_lines heap)
  pub unclosed : closed ≡ None

-- the board leaves a fragment; the seats served their scripts on the table that was closed, which opened for them, and the text tells what each put and take came to
pub record TellsScript (script : QueueScript) (text : List ℕ) (closed : ClosedTable) : Type 0 where
  pub some_left : record_fragments script.heap.board < group_fragments * script.heap.groups
  pub ran : QueueRan
  pub has_run : HasRunQueue script.heap (seat_scripts script) ran
  pub its_table : closed ≡ ran.closed
  pub tells : TellsQueue script.heap (seat_scripts script) closed text

-- the seats found no room for a queue, or served their scripts on the table that is left
abbrev pub RunsScript : QueueScript → List ℕ → Option ClosedTable → Type 0
RunsScript script text closed = FindsNoRoom script.heap text closed ⊎ IsSomeAnd closed (TellsScript script text)

-- the text tells a run of the input's puts and takes, and the table that is left is the one on which they were made
pub record RunsQueue (input text : List ℕ) (closed : Option ClosedTable) : Type 0 where
  pub script : QueueScript
  pub spelled : IsQueueText input script
  pub runs : RunsScript script text closed

-- it does so for some table, or for none
abbrev pub TellsQueueRun : List ℕ → List ℕ → Type 0
TellsQueueRun input text = (closed : Option ClosedTable) × RunsQueue input text closed
