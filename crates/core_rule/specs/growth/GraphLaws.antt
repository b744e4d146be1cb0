-- The laws of graphs as legal histories go on: what a collector may free is free for good.
use Rattle.std.specs.Prelude.{◌≡◌, List, ◌++◌}
use Rattle.heap_model.specs.account.Cycles.{graph_of}
use Rattle.heap_model.specs.declared.entry.Entry.{Entry}
use Rattle.heap_model.specs.declared.heap.Heap.{Heap}
use Rattle.heap_model.specs.declared.id.Id.{Id}
use Rattle.heap_model.specs.graph.Legal.{IsObjectLegal}
use Rattle.heap_model.specs.graph.Reach.{IsMade, Reaches}
use Rattle.heap_model.specs.graph.Sizes.{fragments_at}

-- what was made by some time and is reached later was reached then: once it isn't reached it never is again
abbrev pub UnreachedStaysSo : Type 0
UnreachedStaysSo = (heap : Heap) (history later : List Entry) (id : Id) → IsObjectLegal heap (history ++ later) → IsMade (graph_of heap history) id
    → Reaches (graph_of heap (history ++ later)) id → Reaches (graph_of heap history) id

-- what was made stays in the graph, with as many fragments
abbrev pub EachObjectStays : Type 0
EachObjectStays = (heap : Heap) (history later : List Entry) (id : Id) → IsObjectLegal heap (history ++ later) → IsMade (graph_of heap history) id
    → IsMade (graph_of heap (history ++ later)) id × (fragments_at (graph_of heap (history ++ later)) id ≡ fragments_at (graph_of heap history) id)
