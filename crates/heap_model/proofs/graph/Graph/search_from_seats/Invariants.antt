use Rattle.std.proofs.Common.{All, take, []}
use Rattle.heap_model.specs.graph.Reach.{IsRoot}
use Rattle.heap_model.specs.graph.Search.{GoesOn, FoundFromSeat}
use Rattle.heap_model.specs.graph.Marking.{mark_counts, no_marks}
use Rattle.heap_model.proofs.graph.Graph.search_from_seats.Given as goal

abbrev pub invariant-loop-seat : goal.invariant-loop-seat
invariant-loop-seat l = record {
  goes_on : GoesOn (IsRoot l.self) (record { marks = no_marks (mark_counts l.fn.search.marks); waiting = [] }) l.search;
  found : All (FoundFromSeat l.search.marks) (take l.seat-index l.self.seats);
}
