-- Which texts are those of a queue, and what is wrong with one that is none.
use Rattle.std.specs.Prelude.{ℕ, ◌-◌, ◌<◌, Bool, List, [], ◌∷◌, Option, Some, None, bytes_eq, codes, decimal, nat_le, if◌then◌else◌}
use Rattle.heap_model.specs.Limits.{number_limit}
use Rattle.heap_model.specs.declared.heap.Heap.{Heap}
use Rattle.script_text.specs.declared.cause.Cause.{Cause}
use Rattle.script_text.specs.declared.cause.Cause.TheVariants.{NoSeat}
use Rattle.script_text.specs.declared.cause.LineFault.{LineFault}
use Rattle.script_text.specs.declared.preamble.Preamble.{Preamble}
use Rattle.script_text.specs.Faults.{text_fault}
use Rattle.script_text.specs.Grammar.{IsText}
use Rattle.script_text.specs.Judge.{Judge}
use Rattle.script_text.specs.LineFaults.{command_fault, is_below}
use Rattle.script_text.specs.Operands.{Range}
use Rattle.heap_queue.specs.declared.queue_command.QueueCommand.{QueueCommand}
use Rattle.heap_queue.specs.declared.queue_command.QueueCommand.TheVariants.{Put, Take}
use Rattle.heap_queue.specs.declared.queue_line.QueueLine.{QueueLine}
use Rattle.heap_queue.specs.declared.queue_script.QueueScript.{QueueScript}
use Rattle.heap_queue.specs.Serving.{IsQueueCommand}

-- each command by its name, with the range of its operand
abbrev pub queue_commands : List (List ℕ × List Range)
queue_commands = (codes "put", (0, number_limit - 1) ∷ []) ∷ (codes "take", []) ∷ []

-- the words of a command
abbrev pub queue_command_words : QueueCommand → List (List ℕ)
queue_command_words (Put n) = codes "put" ∷ decimal n ∷ []
queue_command_words Take = codes "take" ∷ []

-- a line that a queue's text may have: its seat is one of the heap's
abbrev pub IsQueueLine : Preamble → QueueLine → Type 0
IsQueueLine preamble line = (line.seat < preamble.heap.seats) × IsQueueCommand line.command

-- the words of a line: its seat's number and what that does
abbrev pub queue_words : QueueLine → List (List ℕ)
queue_words line = decimal line.seat ∷ queue_command_words line.command

-- the first line
abbrev pub queue_header : ℕ → List ℕ
queue_header version = codes "queue 1"

-- behind it stands a heap line as in version 2 of a script
abbrev pub queue_version : List ℕ → Option ℕ
queue_version line = if bytes_eq line (codes "queue 1") then Some 2 else None

-- the board has fields for the queue's first and last node
abbrev pub has_room_for_ends : Heap → Bool
has_room_for_ends heap = nat_le 2 heap.board

-- what is wrong with the words of a line after the heap line
abbrev pub queue_line_fault : Preamble → List (List ℕ) → Option Cause
queue_line_fault preamble [] = Some NoSeat
queue_line_fault preamble (word ∷ rest) = if is_below preamble.heap.seats word then command_fault queue_commands rest else Some NoSeat

-- how a queue's text is judged
abbrev pub queue_judge : Judge
queue_judge = record { version_of = queue_version; takes = has_room_for_ends; words_fault = queue_line_fault }

-- what the first two lines of a queue's text tell, by its heap
abbrev pub queue_preamble : Heap → Preamble
queue_preamble heap = record { version = 2; heap = heap }

-- the text spells this heap and these lines of seats, which are of the grammar
abbrev pub IsQueueText : List ℕ → QueueScript → Type 0
IsQueueText text script = IsText has_room_for_ends queue_header queue_words IsQueueLine text (queue_preamble script.heap) script.lines

-- the first fault of a queue's text
abbrev pub first_queue_fault : List ℕ → Option LineFault
first_queue_fault text = text_fault queue_judge text
