use Rattle.std.proofs.Common.{◌≡◌, ◌≤◌, length, vec_len, vec_capacity}
use Rattle.core_machine.specs.table.Layout.{table_length}
use Rattle.heap_table.specs.Views.{known_by}
use Rattle.heap_table.proofs.Histories.{IsReading}
use Rattle.heap_table.proofs.closing.read_all.Given as goal

abbrev pub invariant-loop-word : goal.invariant-loop-word
invariant-loop-word l =
    IsReading l.table.table_id l.table.key l.token.table_id l.token.me l.heap (known_by l.fn.token.me.0) l.words.items
    × (length l.words.items ≡ l.word) × (vec_len l.words ≡ l.word) × (l.count ≤ vec_capacity l.words) × (l.count ≡ table_length l.heap)
