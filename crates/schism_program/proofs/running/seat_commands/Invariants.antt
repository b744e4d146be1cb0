use Rattle.std.proofs.Common.{◌≡◌, take}
use Rattle.schism_program.specs.Running.{seat_commands}
use Rattle.schism_program.proofs.running.seat_commands.Given as goal

-- the commands of the lines so far
abbrev pub invariant-loop-line : goal.invariant-loop-line
invariant-loop-line l = l.commands.items ≡ seat_commands l.seat (take l.line-index l.lines)
