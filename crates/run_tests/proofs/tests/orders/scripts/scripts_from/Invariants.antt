use Rattle.std.proofs.Common.{◌≡◌, ◌≤◌, length}
use Rattle.std.specs.Prelude.{All}
use Rattle.heap_model.specs.declared.command.Command.{Command}
use Rattle.std.proofs.Common.{Vec, Global}
use Rattle.heap_runs.specs.SeatWork.{IsOfScript}
use Rattle.run_tests.proofs.tests.orders.scripts.scripts_from.Given as goal

-- there is a short script of each seat so far
abbrev pub invariant-loop-number : goal.invariant-loop-number
invariant-loop-number l = record {
  seated : length l.scripts.items ≡ l.number;
  short : All (λ (script : Vec Command Global). length script.items ≤ 20) l.scripts.items;
  each : All (λ (script : Vec Command Global). All IsOfScript script.items) l.scripts.items;
}
