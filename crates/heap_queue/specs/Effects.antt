-- What the replies of a history do to the queue, in their order, and when that is what a queue does.
use Rattle.std.specs.Prelude.{◌≡◌, ℕ, ◌==◌, if◌then◌else◌, List, [], ◌∷◌, ◌++◌}
use Rattle.heap_model.specs.declared.entry.Entry.{Entry}
use Rattle.heap_model.specs.declared.entry.Entry.TheVariants.{Said}
use Rattle.heap_model.specs.declared.heap.Heap.{Heap}
use Rattle.heap_model.specs.declared.id.Value.{Value}
use Rattle.heap_model.specs.declared.id.Value.TheVariants.{Nil}
use Rattle.heap_model.specs.declared.reply.Reply.{Reply}
use Rattle.heap_model.specs.declared.reply.Reply.TheVariants.{Got, Was}
use Rattle.heap_model.specs.graph.Graph.{Graph, opening}
use Rattle.heap_model.specs.graph.Growth.{after_entry}
use Rattle.heap_model.specs.graph.Objects.{register_value}
use Rattle.heap_queue.specs.Places.{Place, MakesNode, Waits, PutLinks, TakeNext, TakeUnlinks, after}

-- what happens to the queue
pub data Effect : Type 0 where
  -- a value is put behind the others
  Put : Value → Effect
  -- the front is taken, and is this value
  Took : Value → Effect
  -- the queue is found empty
  Empty : Effect

-- what a reply does to the queue, by the seat's place and the values of its registers: a put where its node is linked, a take where the first node is unlinked, and a take that finds no node behind the first
abbrev pub effects : (ℕ → Value) → Place → Reply → List Effect
effects held (PutLinks v) (Was stamp) = Put (held v) ∷ []
effects held TakeUnlinks (Was stamp) = Took (held 11) ∷ []
effects held TakeNext (Got Nil stamp) = Empty ∷ []
effects held place reply = []

-- where each seat stands
abbrev pub Places : Type 0
Places = ℕ → Place

-- where a seat stands at the opening: the maker is to make the queue, and the others wait for it
abbrev pub start : ℕ → Places
start maker number = if number == maker then MakesNode else Waits

-- where each seat stands after an entry
abbrev pub moved : Places → Entry → Places
moved place (Said seat command reply) = λ number. if number == seat then after (place seat) command reply else place number
moved place entry = place

-- what an entry does to the queue
abbrev pub effects_at : Graph → Places → Entry → List Effect
effects_at g place (Said seat command reply) = effects (register_value g seat) (place seat) reply
effects_at g place entry = []

-- what the entries do to the queue, in their order
abbrev pub effects_from : Graph → Places → List Entry → List Effect
effects_from g place [] = []
effects_from g place (entry ∷ history) = effects_at g place entry ++ effects_from (after_entry g entry) (moved place entry) history

-- what a history does to the queue that this seat makes
abbrev pub effects_of : Heap → ℕ → List Entry → List Effect
effects_of heap maker history = effects_from (opening heap) (start maker) history

-- the effects lead from one list of values to another: a put appends its value, a take removes the front, which is its value, and the queue is found empty only where it is
abbrev pub Serves : List Value → List Effect → List Value → Type 0
Serves queue [] now = now ≡ queue
Serves queue (Put value ∷ more) now = Serves (queue ++ value ∷ []) more now
Serves [] (Took value ∷ more) now = ⊥
Serves (front ∷ queue) (Took value ∷ more) now = (value ≡ front) × Serves queue more now
Serves [] (Empty ∷ more) now = Serves [] more now
Serves (front ∷ queue) (Empty ∷ more) now = ⊥

-- they are those of a queue that is empty at first
abbrev pub AreQueueLegal : List Effect → Type 0
AreQueueLegal told = (queue : List Value) × Serves [] told queue
