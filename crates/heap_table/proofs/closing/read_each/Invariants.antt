use Rattle.std.proofs.Common.{◌≡◌, length}
use Rattle.core_machine.specs.table.Layout.{table_length}
use Rattle.heap_table.specs.Views.{known_by}
use Rattle.heap_table.proofs.Histories.{IsReading}
use Rattle.heap_table.proofs.closing.read_each.Given as goal

abbrev pub invariant-loop-position : goal.invariant-loop-position
invariant-loop-position l =
    IsReading l.table.table_id l.table.key l.token.table_id l.token.me l.heap (known_by l.fn.token.me.0) (known_by l.token.me.0).closed
    × (length (known_by l.token.me.0).closed ≡ l.position) × (l.count ≡ table_length l.heap)
