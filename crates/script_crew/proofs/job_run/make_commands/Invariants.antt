use Rattle.std.proofs.Common.{take}
use Rattle.heap_runs.specs.SeatWork.{GoesOn}
use Rattle.script_crew.specs.Runs.{with_polls}
use Rattle.script_crew.proofs.job_run.make_commands.Given as goal

-- the commands so far are made, with their polls
abbrev pub invariant-loop-command : goal.invariant-loop-command
invariant-loop-command g l = GoesOn 1 l.fn.seat l.seat (with_polls (take l.command-index l.commands))
