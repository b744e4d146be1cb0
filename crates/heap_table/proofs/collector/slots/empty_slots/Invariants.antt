use Rattle.std.proofs.Common.{◌≡◌, replicate, None}
use Rattle.heap_table.proofs.collector.slots.empty_slots.Given as goal

abbrev pub invariant-loop : goal.invariant-loop
invariant-loop g l = l.seat_slots.items ≡ replicate l.counter None
