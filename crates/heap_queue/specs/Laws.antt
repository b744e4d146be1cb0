-- What is true of every history of a queue.
use Rattle.std.specs.Prelude.{◌≡◌, ◌≢◌, ℕ, ◌<◌, ◌≤◌, List, [], ◌∷◌, ◌++◌}
use Rattle.std.specs.Option.{IfSome}
use Rattle.heap_model.specs.declared.entry.Entry.{Entry}
use Rattle.heap_model.specs.declared.entry.Entry.TheVariants.{Said}
use Rattle.heap_model.specs.declared.heap.Heap.{Heap}
use Rattle.heap_model.specs.Board.{board_fields}
use Rattle.heap_model.specs.Limits.{set_limit}
use Rattle.heap_model.specs.Logs.{log_of}
use Rattle.heap_model.specs.graph.Changes.{set_stamp}
use Rattle.heap_model.specs.graph.Legal.{IsObjectLegal}
use Rattle.heap_queue.specs.declared.replies.PutReply.TheVariants as puts
use Rattle.heap_queue.specs.declared.replies.TakeReply.TheVariants as takes
use Rattle.heap_queue.specs.Calls.{Call, PutCall, TakeCall, ends, IsWhole, over}
use Rattle.heap_queue.specs.Effects.{Places, start, moved, effects_of, AreQueueLegal}
use Rattle.heap_queue.specs.Histories.{AreQueueLogs, IsQueueHistory, Leads}
use Rattle.heap_queue.specs.Places.{Place}

-- the stamp is that of a set of this seat
abbrev pub IsStampOf : ℕ → ℕ → Type 0
IsStampOf number stamp = (n : ℕ) × (0 < n) × (n < set_limit) × (stamp ≡ set_stamp number n)

-- the stamp is that of a set of another one of so many seats
abbrev pub IsForeign : ℕ → ℕ → ℕ → Type 0
IsForeign seats number stamp = (other : ℕ) × (other ≢ number) × (other < seats) × IsStampOf other stamp

-- the call doesn't answer that there is no queue
abbrev pub FindsQueue : Call → Type 0
FindsQueue (PutCall v puts.NoQueue) = ⊥
FindsQueue (TakeCall takes.NoQueue) = ⊥
FindsQueue call = Unit {0}

-- where the seat's call asks to be made again, it shows the stamp of another seat's set
abbrev pub ShowsForeign : ℕ → ℕ → Call → Type 0
ShowsForeign seats number (PutCall v (puts.Again stamp)) = IsForeign seats number stamp
ShowsForeign seats number (TakeCall (takes.Again stamp)) = IsForeign seats number stamp
ShowsForeign seats number call = Unit {0}

-- the call doesn't ask to be made again
abbrev pub IsDone : Call → Type 0
IsDone (PutCall v (puts.Again stamp)) = ⊥
IsDone (TakeCall (takes.Again stamp)) = ⊥
IsDone call = Unit {0}

-- what holds of the call that ends with an entry, and of the seat that makes it
abbrev pub HoldsOf : (ℕ → Call → Type 0) → Places → Entry → Type 0
HoldsOf Holds place (Said seat command reply) = IfSome (ends (place seat) command reply) (Holds seat)
HoldsOf Holds place entry = Unit {0}

-- it holds of each call that ends in the history
abbrev pub HoldsOfEach : (ℕ → Call → Type 0) → Places → List Entry → Type 0
HoldsOfEach Holds place [] = Unit {0}
HoldsOfEach Holds place (entry ∷ history) = HoldsOf Holds place entry × HoldsOfEach Holds (moved place entry) history

-- every queue takes out what was put in, in its order
abbrev pub EffectsAreLegal : Type 0
EffectsAreLegal = (heap : Heap) (maker : ℕ) (history : List Entry) → 2 ≤ board_fields heap → IsQueueHistory heap maker history → AreQueueLegal (effects_of heap maker history)

-- no put or take fails to find the queue
abbrev pub EachFindsQueue : Type 0
EachFindsQueue = (heap : Heap) (maker : ℕ) (history : List Entry) → 2 ≤ board_fields heap → IsQueueHistory heap maker history → HoldsOfEach (λ seat call. FindsQueue call) (start maker) history

-- a put or take is asked to be made again only because of another seat
abbrev pub AgainsAreForeign : Type 0
AgainsAreForeign = (heap : Heap) (maker : ℕ) (history : List Entry) → 2 ≤ board_fields heap → IsQueueHistory heap maker history → HoldsOfEach (ShowsForeign heap.seats) (start maker) history

-- and so never on a heap with one seat
abbrev pub EachIsDoneAlone : Type 0
EachIsDoneAlone = (heap : Heap) (maker : ℕ) (history : List Entry) → 2 ≤ board_fields heap → IsQueueHistory heap maker history → heap.seats ≡ 1 → HoldsOfEach (λ seat call. IsDone call) (start maker) history

-- every legal order of the logs of a queue that keeps the order of each of them is the history of a queue
abbrev pub OrdersAreHistories : Type 0
OrdersAreHistories = (heap : Heap) (maker : ℕ) (log : ℕ → List Entry) (history : List Entry) → AreQueueLogs maker log → IsObjectLegal heap history → ((number : ℕ) → log_of number history ≡ log number) → IsQueueHistory heap maker history

-- a log that leads to where a call begins, and then goes on by that call up to its end, leads on to where the seat rests, or to nothing more where it made no queue
abbrev pub CallsLeadOn : Type 0
CallsLeadOn = (place begins : Place) (log added : List Entry) (calls : List Call) (call : Call) → Leads place log begins calls → IsWhole begins added call → Leads place (log ++ added) (over call) (calls ++ call ∷ [])
