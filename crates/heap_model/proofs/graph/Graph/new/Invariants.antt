use Rattle.std.proofs.Common.{◌≡◌, replicate}
use Rattle.heap_model.specs.graph.Graph.{opening_graph_seat}
use Rattle.heap_model.proofs.graph.Graph.new.Given as goal

abbrev pub invariant-loop-seat : goal.invariant-loop-seat
invariant-loop-seat l = l.seats.items ≡ replicate l._seat opening_graph_seat
