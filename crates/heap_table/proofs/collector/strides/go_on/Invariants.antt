use Rattle.std.proofs.Common.{◌≡◌}
use Rattle.heap_model.specs.calls.ManyTurns.{MakesOnward}
use Rattle.heap_table.specs.ManyTurns.{collector_in, KeepsAhead, Works}
use Rattle.heap_table.specs.Views.{known_by}
use Rattle.heap_table.proofs.collector.strides.go_on.Given as goal

-- the turns so far were made on the table, and the view stands at the stage to which they have led
abbrev pub invariant-loop-made : goal.invariant-loop-made
invariant-loop-made g l =
    (l.token.table_id ≡ l.fn.token.table_id)
    × KeepsAhead l.fn.table.table_id l.fn.table.key l.token.table_id l.token.me l.fn.heap
    × MakesOnward (Works l.fn.heap) l.made (known_by l.fn.token.me.0) (known_by l.token.me.0)
    × (collector_in l.token.me ≡ record (collector_in l.fn.token.me) { stage = l.at })
