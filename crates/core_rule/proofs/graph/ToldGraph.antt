-- The graph of all that was told so far.
use Rattle.core_rule.proofs.Terms.{Heap, graph_of, Graph, Book}

-- the graph that a book's history comes to
abbrev pub told_graph : Heap → Book → Graph
told_graph heap book = graph_of heap book.history
