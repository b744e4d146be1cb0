use Rattle.std.proofs.Common.{◌≡◌, ◌+◌, length}
use Rattle.heap_model.specs.graph.Search.{IsSearch}
use Rattle.heap_model.specs.graph.Marking.{unmarked, mark_counts, HasMarks}
use Rattle.heap_model.proofs.graph.Graph.search.Given as goal

abbrev pub invariant-loop-id : goal.invariant-loop-id
invariant-loop-id l = record {
  reached : HasMarks l.self l.fn.search.marks → IsSearch l.self l.search;
  marks : mark_counts l.search.marks ≡ mark_counts l.fn.search.marks;
}

abbrev pub decreases-loop-id : goal.decreases-loop-id
decreases-loop-id l = unmarked l.search.marks + length l.search.waiting
