use Rattle.std.proofs.Common.{◌≡◌, ◌+◌, ◌*◌, ◌≤◌, length, sum_by, take}
use Rattle.heap_model.proofs.graph.reach.search.Search.new.Given as goal

abbrev pub invariant-loop-seat : goal.invariant-loop-seat
invariant-loop-seat l = (l.positions ≡ 1 + sum_by (λ seat. length seat.objects) (take l.seat-index l.seats)) × (l.positions ≤ 1 + 4294967296 * l.seat-index)
