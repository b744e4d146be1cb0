-- The scripts of the seats that the lines of a queue's text tell.
use Rattle.std.specs.Prelude.{ℕ, ◌==◌, List, filter, map}
use Rattle.std.specs.List.{range_with_len}
use Rattle.script_text.specs.Grammar.{IsTold}
use Rattle.heap_queue.specs.declared.queue_command.QueueCommand.{QueueCommand}
use Rattle.heap_queue.specs.declared.queue_line.QueueLine.{QueueLine}
use Rattle.heap_queue.specs.declared.queue_script.QueueScript.{QueueScript}
use Rattle.heap_queue.specs.QueueText.{IsQueueLine, has_room_for_ends, queue_preamble}

-- the commands of the lines of the seat with this number, in their order
abbrev pub commands_of : ℕ → List QueueLine → List QueueCommand
commands_of number lines = map (λ line. line.command) (filter (λ line. line.seat == number) lines)

-- the script of each seat, in the order of their numbers
abbrev pub seat_scripts : QueueScript → List (List QueueCommand)
seat_scripts script = map (λ number. commands_of number script.lines) (range_with_len 0 script.heap.seats)

-- its lines are of seats of its heap, whose board has room for the queue's ends, and not more than a text may have
abbrev pub IsOfQueue : QueueScript → Type 0
IsOfQueue script = IsTold has_room_for_ends IsQueueLine (queue_preamble script.heap) script.lines
