-- What a teller has told, on the way through a history.
use Rattle.std.specs.Prelude.{◌≡◌, List, ◌++◌}
use Rattle.heap_model.specs.declared.entry.Entry.{Entry}
use Rattle.heap_model.specs.declared.heap.Heap.{Heap}
use Rattle.heap_queue.specs.declared.teller.Teller.{Teller}
use Rattle.heap_queue.specs.Effects.{effects_from, effects_of}
use Rattle.heap_queue.specs.Stages.{places_of}
use Rattle.heap_queue.specs.Telling.{effects_in, told_from, told_of}

-- what was told so far and what the rest tells are together what the history tells
abbrev pub HasTold : Heap → List Entry → List Entry → Teller → Type 0
HasTold heap history rest teller = teller.calls.items ++ told_from teller.graph (places_of teller.stages) rest ≡ told_of heap 0 history

-- so it is with what they do to the queue
abbrev pub HasDone : Heap → List Entry → List Entry → Teller → Type 0
HasDone heap history rest teller = effects_in teller.calls.items ++ effects_from teller.graph (places_of teller.stages) rest ≡ effects_of heap 0 history
