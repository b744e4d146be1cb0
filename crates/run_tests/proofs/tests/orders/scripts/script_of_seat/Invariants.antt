use Rattle.std.proofs.Common.{◌≤◌, length}
use Rattle.std.specs.Prelude.{All}
use Rattle.heap_runs.specs.SeatWork.{IsOfScript}
use Rattle.run_tests.proofs.tests.orders.scripts.script_of_seat.Given as goal

-- the commands so far are few, and those of a script
abbrev pub invariant-loop-line : goal.invariant-loop-line
invariant-loop-line l = record { short : length l.script.items ≤ 20; each : All IsOfScript l.script.items }
