use Rattle.std.proofs.Common.{◌≡◌, take}
use Rattle.heap_queue.specs.SeatScripts.{commands_of}
use Rattle.heap_queue.proofs.seat_scripts.commands_of.Given as goal

-- the commands of the lines so far
abbrev pub invariant-loop-line : goal.invariant-loop-line
invariant-loop-line l = l.commands.items ≡ commands_of l.seat (take l.line-index l.lines)
