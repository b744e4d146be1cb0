-- What the log of a seat tells of its script of puts and takes.
use Rattle.std.specs.Prelude.{◌≡◌, ℕ, ◌+◌, ◌*◌, ◌<◌, ◌≤◌, ◌==◌, ◌⊎◌, if◌then◌else◌, Bool, true, false, List, [], ◌∷◌, ◌++◌, length}
use Rattle.heap_model.specs.Limits.{name_limit, stamp_limit, number_limit}
use Rattle.heap_model.specs.declared.command.Command.TheVariants.{Num, Poll}
use Rattle.heap_model.specs.declared.entry.Entry.{Entry}
use Rattle.heap_model.specs.declared.entry.Entry.TheVariants.{Said, Answers}
use Rattle.heap_model.specs.declared.reply.Reply.TheVariants.{Done, Phase}
use Rattle.heap_model.specs.calls.SeatState.{SeatState, own_graph_seat}
use Rattle.heap_queue.specs.declared.queue_command.QueueCommand.{QueueCommand}
use Rattle.heap_queue.specs.declared.queue_command.QueueCommand.TheVariants.{Put, Take}
use Rattle.heap_queue.specs.Calls.{Call, QueueMade, PutRefused, PutCall, TookInto, TakeCall, IsWhole}
use Rattle.heap_queue.specs.Effects.{start}
use Rattle.heap_queue.specs.Grows.{MakesFirst}
use Rattle.heap_queue.specs.Histories.{Leads}
use Rattle.heap_queue.specs.Places.{Place, Waits, Rests}

-- the register whose number a script puts
abbrev pub put_register : ℕ
put_register = 10

-- the register into which a script takes
abbrev pub take_register : ℕ
take_register = 9

-- the number that is put is one that a register may be set to
abbrev pub IsQueueCommand : QueueCommand → Type 0
IsQueueCommand (Put n) = n < number_limit
IsQueueCommand Take = Unit {0}

-- the call is a put of the one register, or a take into the other, as the command says
abbrev pub IsCallOf : QueueCommand → Call → Type 0
IsCallOf (Put n) (PutRefused need found) = Unit {0}
IsCallOf (Put n) (PutCall v reply) = v ≡ put_register
IsCallOf Take (TookInto d) = d ≡ take_register
IsCallOf Take (TakeCall reply) = Unit {0}
IsCallOf command call = ⊥

-- what a seat tells before the call: before a put that the register was set to the number
abbrev pub sets_number : ℕ → QueueCommand → List Entry
sets_number number (Put n) = Said number (Num put_register n) Done ∷ []
sets_number number Take = []

-- the entries answer the command by this call and its reply
pub record AnswersBy (number : ℕ) (command : QueueCommand) (call : Call) (log : List Entry) : Type 0 where
  pub asked : IsCallOf command call
  pub calling : List Entry
  pub whole : IsWhole Rests calling call
  pub log_is : log ≡ sets_number number command ++ calling

-- the entries answer a poll
abbrev pub IsPolled : ℕ → List Entry → Type 0
IsPolled number log = (p : ℕ) × ((log ≡ Said number Poll (Phase p) ∷ []) ⊎ (log ≡ Answers number p ∷ Said number Poll (Phase p) ∷ []))

-- the entries answer the command by this call, and then a poll
pub record ServesBy (number : ℕ) (command : QueueCommand) (call : Call) (log : List Entry) : Type 0 where
  pub answering : List Entry
  pub answered : AnswersBy number command call answering
  pub polling : List Entry
  pub polled : IsPolled number polling
  pub log_is : log ≡ answering ++ polling

-- the entries answer the commands by these calls, in their order and each once
abbrev pub ServesEach : ℕ → List QueueCommand → List Call → List Entry → Type 0
ServesEach number [] [] log = log ≡ []
ServesEach number (command ∷ commands) (call ∷ calls) log =
    (one : List Entry) × (rest : List Entry) × (log ≡ one ++ rest) × ServesBy number command call one × ServesEach number commands calls rest
ServesEach number commands calls log = ⊥

-- the entries answer the script by some calls
abbrev pub ServesScript : ℕ → List QueueCommand → List Entry → Type 0
ServesScript number script log = (calls : List Call) × ServesEach number script calls log

-- the first calls of a seat: the first seat makes the queue
abbrev pub first_calls : ℕ → List Call
first_calls number = if number == 0 then QueueMade ∷ [] else []

-- where a seat stands once the queue is made, before it has found it
abbrev pub begin_place : ℕ → Place
begin_place number = if number == 0 then Rests else Waits

-- the log is that of a seat once the first one has made the queue, with whose making the first one's log begins
pub record HasBegun (number : ℕ) (log : List Entry) : Type 0 where
  pub leads : Leads (start 0 number) log (begin_place number) (first_calls number)
  pub at_once : number ≡ 0 → MakesFirst log

-- the log is that of a seat which has made or found the queue; the first one's begins with the making
pub record HasFound (number : ℕ) (log : List Entry) : Type 0 where
  pub leads : Leads (start 0 number) log Rests (first_calls number)
  pub at_once : number ≡ 0 → MakesFirst log

-- the seat has made or found the queue, and then served its script by these calls, each with the reply that its log shows; so the log is one of a queue, and no other call ends in it
pub record HasCome (number : ℕ) (script : List QueueCommand) (log : List Entry) : Type 0 where
  pub opening : List Entry
  pub found : HasFound number opening
  pub calls : List Call
  pub serving : List Entry
  pub served : ServesEach number script calls serving
  pub log_is : log ≡ opening ++ serving
  pub leads : Leads (start 0 number) log Rests (first_calls number ++ calls)

-- the seat hasn't left, has names left for so many puts, and does by them fewer sets than it has stamps
pub record HasLeftFor (puts : ℕ) (seat : SeatState) : Type 0 where
  pub present : (own_graph_seat seat).left ≡ false
  pub names : length (own_graph_seat seat).objects + puts < name_limit
  pub stamps : (own_graph_seat seat).sets + 3 * puts < stamp_limit

-- it is the same seat of the same heap and hasn't left since, it has used up no more than so many puts do, and these are the entries that it has told since
pub record GoesOnBy (puts : ℕ) (Tells : List Entry → Type 0) (old new : SeatState) : Type 0 where
  pub heap : new.heap ≡ old.heap
  pub number : new.number ≡ old.number
  pub present : (own_graph_seat new).left ≡ (own_graph_seat old).left
  pub made : length (own_graph_seat new).objects ≤ length (own_graph_seat old).objects + puts
  pub sets : (own_graph_seat new).sets ≤ (own_graph_seat old).sets + 3 * puts
  pub added : List Entry
  pub told : new.mine ≡ old.mine ++ added
  pub tells : Tells added

-- where a seat stands that has looked for the queue
abbrev pub looked_place : Bool → Place
looked_place true = Rests
looked_place false = Waits

-- by this log a seat that waits for the queue comes there
abbrev pub HasLooked : Place → List Entry → Type 0
HasLooked place log = Leads Waits log place []
