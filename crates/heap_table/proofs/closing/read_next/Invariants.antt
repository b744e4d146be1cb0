use Rattle.heap_table.specs.Closed.{EndsWhole}
use Rattle.heap_table.specs.Handing.{with_closed}
use Rattle.heap_table.specs.Views.{collector_view, known_by}
use Rattle.heap_table.proofs.closing.read_next.Given as goal

abbrev pub ghosts-read : goal.ghosts-read
ghosts-read a = record { becomes = λ n. collector_view (with_closed (known_by a.token.now.me.0) n); told = λ n. EndsWhole a._heap.now (with_closed (known_by a.token.now.me.0) n) }
