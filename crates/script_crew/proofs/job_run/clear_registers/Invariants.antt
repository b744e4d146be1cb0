use Rattle.std.proofs.Common.{◌-◌, map}
use Rattle.std.specs.List.{range_with_len}
use Rattle.heap_model.specs.declared.command.Command.TheVariants.{Nil}
use Rattle.heap_runs.specs.SeatWork.{GoesOn}
use Rattle.script_crew.proofs.job_run.clear_registers.Given as goal

-- the registers so far are cleared
abbrev pub invariant-loop-d : goal.invariant-loop-d
invariant-loop-d g l = GoesOn 1 l.fn.seat l.seat (map Nil (range_with_len 1 (l.d - 1)))
