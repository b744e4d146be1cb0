use Rattle.std.proofs.Common.{map}
use Rattle.locked_heap.proofs.running.run_locked.Given as goal

abbrev pub ghosts-run_named : goal.ghosts-run_named
ghosts-run_named g a = record {
  given = record {
    heap = a.on.machine.heap;
    opening = a.on.machine.state;
    scripts = map (λ script. script.items) a.scripts.now;
    patience = a.on.patience;
  };
}
