use Rattle.std.proofs.Common.{◌≤◌, ◌-◌}
use Rattle.heap_model.proofs.call_lemmas.ManyTurnsLemmas.{MakesSo}
use Rattle.heap_table.specs.ManyTurns.{MakesTurn}
use Rattle.heap_table.proofs.ManyTurns.{HolderGrows}
use Rattle.heap_table.proofs.collector.CollectorHolder.take_turns.Given as goal

-- the turns so far were made, none of them waited, and no more entries were added than these are
abbrev pub invariant-loop-made : goal.invariant-loop-made
invariant-loop-made g l = (l.made ≤ l.n) × MakesSo MakesTurn l.made l.fn.self l.self l.last × HolderGrows l.made l.fn.self l.self

abbrev pub decreases-loop-made : goal.decreases-loop-made
decreases-loop-made g l = l.n - l.made
