-- Which histories are those of a queue.
use Rattle.std.specs.Prelude.{◌≡◌, ℕ, List, [], ◌∷◌}
use Rattle.heap_model.specs.declared.entry.Entry.{Entry}
use Rattle.heap_model.specs.declared.entry.Entry.TheVariants.{Said}
use Rattle.heap_model.specs.declared.heap.Heap.{Heap}
use Rattle.heap_model.specs.graph.Legal.{IsObjectLegal}
use Rattle.heap_model.specs.Logs.{log_of}
use Rattle.heap_queue.specs.Calls.{Call, QueueMade, calls_in}
use Rattle.heap_queue.specs.Effects.{start}
use Rattle.heap_queue.specs.Places.{Place, MakesNode, IsDue, after}

-- from this place on each command that the log answers is due: puts and takes are whole, but for the last, and nothing stands within them
abbrev pub IsQueueLog : Place → List Entry → Type 0
IsQueueLog place [] = Unit {0}
IsQueueLog place (Said number command reply ∷ log) = IsDue place command × IsQueueLog (after place command reply) log
IsQueueLog place (entry ∷ log) = IsQueueLog place log

-- where a seat stands after a log
abbrev pub place_after : Place → List Entry → Place
place_after place [] = place
place_after place (Said number command reply ∷ log) = place_after (after place command reply) log
place_after place (entry ∷ log) = place_after place log

-- the log leads a seat from one place to another, and these calls end in it
pub record Leads (place : Place) (log : List Entry) (last : Place) (calls : List Call) : Type 0 where
  pub due : IsQueueLog place log
  pub stands : place_after place log ≡ last
  pub ended : calls_in place log ≡ calls

-- the logs are those of seats of which this one makes the queue, and the others put and take once they have found it
pub record AreQueueLogs (maker : ℕ) (log : ℕ → List Entry) : Type 0 where
  pub each : (number : ℕ) → IsQueueLog (start maker number) (log number)
  pub later : List Call
  pub made : calls_in MakesNode (log maker) ≡ QueueMade ∷ later

-- the history of a queue that this seat makes: each reply is that of a heap that never collects, and the seats' logs are those of its making, puts and takes
pub record IsQueueHistory (heap : Heap) (maker : ℕ) (history : List Entry) : Type 0 where
  pub legal : IsObjectLegal heap history
  pub logs : AreQueueLogs maker (λ number. log_of number history)
