-- Which entries the graph accepts, and which histories are legal for its objects.
use Rattle.std.specs.Prelude.{◌≡◌, ℕ, false, List, [], ◌∷◌}
use Rattle.heap_model.specs.declared.heap.Heap.{Heap}
use Rattle.heap_model.specs.declared.entry.Entry.{Entry}
use Rattle.heap_model.specs.declared.entry.Entry.TheVariants as entries
use Rattle.heap_model.specs.Command.{IsCommand}
use Rattle.heap_model.specs.graph.Objects.{graph_seat}
use Rattle.heap_model.specs.graph.Graph.{Graph, opening}
use Rattle.heap_model.specs.graph.Growth.{after_entry}
pub use Rattle.heap_model.specs.graph.Replies.{Says, Gets, Sets, Swaps, Compares, Polls, Collects, length_reply}

-- the seat is one of the heap's, and hasn't left
abbrev pub IsPresent : Graph → ℕ → Type 0
IsPresent g number = (graph_seat g number).left ≡ false

-- the entry may stand after what led to this graph
abbrev pub Accepts : Graph → Entry → Type 0
Accepts g (entries.Said number command reply) = IsPresent g number × IsCommand command × Says g number command reply
Accepts g (entries.Takes number count) = IsPresent g number
Accepts g (entries.GivesBack number count) = IsPresent g number
Accepts g (entries.Answers number phase) = IsPresent g number
Accepts g _ = Unit {0}

-- each entry may stand after those before it
abbrev pub AcceptsAll : Graph → List Entry → Type 0
AcceptsAll g [] = Unit {0}
AcceptsAll g (entry ∷ history) = Accepts g entry × AcceptsAll (after_entry g entry) history

-- each reply is that of a heap that never collects
abbrev pub IsObjectLegal : Heap → List Entry → Type 0
IsObjectLegal heap history = AcceptsAll (opening heap) history
