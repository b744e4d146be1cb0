use Rattle.std.proofs.Common.{◌≡◌, map, replicate, length, take}
use Rattle.heap_model.proofs.graph.reach.marks.Marks.new.Given as goal

abbrev pub invariant-loop-seat : goal.invariant-loop-seat
invariant-loop-seat l = l.rows.items ≡ map (λ seat. replicate (length seat.objects) 0) (take l.seat-index l.seats)
