use Rattle.heap_table.specs.ManyTurns.{collector_in}
use Rattle.heap_table.specs.Told.{next_known, ToldAtTurn}
use Rattle.heap_table.specs.Views.{collector_view, known_by}
use Rattle.heap_table.proofs.collector.strides.turn_next.Given as goal

abbrev pub ghosts-touch : goal.ghosts-touch
ghosts-touch a = record { becomes = λ n. collector_view (next_known a.heap.now (known_by a.token.now.me.0) n); told = ToldAtTurn a.heap.now (collector_in a.token.now.me) }
