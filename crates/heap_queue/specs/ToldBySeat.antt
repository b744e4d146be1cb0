-- What is told of one seat's puts and takes, that its own log tells the same, and when that is what its script asks.
use Rattle.std.specs.Prelude.{◌≡◌, ℕ, ◌==◌, if◌then◌else◌, List, [], ◌∷◌, Option, Some, None, map, filter}
use Rattle.heap_model.specs.declared.command.Command.{Command}
use Rattle.heap_model.specs.declared.command.Command.TheVariants as commands
use Rattle.heap_model.specs.declared.entry.Entry.{Entry}
use Rattle.heap_model.specs.declared.entry.Entry.TheVariants.{Said}
use Rattle.heap_model.specs.declared.id.Id.TheVariants.{Board}
use Rattle.heap_model.specs.declared.id.Value.{Value}
use Rattle.heap_model.specs.declared.id.Value.TheVariants.{Nil, Number, Object}
use Rattle.heap_model.specs.declared.reply.Reply.{Reply}
use Rattle.heap_model.specs.declared.reply.Reply.TheVariants.{Made, Got}
use Rattle.heap_queue.specs.declared.queue_command.QueueCommand.{QueueCommand}
use Rattle.heap_queue.specs.declared.queue_command.QueueCommand.TheVariants.{Put, Take}
use Rattle.heap_queue.specs.declared.replies.PutReply.TheVariants as puts
use Rattle.heap_queue.specs.declared.told.Told.{Told}
use Rattle.heap_queue.specs.declared.told.Told.TheVariants as tells
use Rattle.heap_queue.specs.declared.told.ToldCall.{ToldCall}
use Rattle.heap_queue.specs.Calls.{Call, PutRefused, PutCall, TookInto, TakeCall}
use Rattle.heap_queue.specs.Effects.{start}
use Rattle.heap_queue.specs.Places.{Place, after}
use Rattle.heap_queue.specs.Telling as telling

-- what was told of this seat's calls, in their order
abbrev pub told_by : ℕ → List ToldCall → List Told
told_by number calls = map (λ call. call.told) (filter (λ call. call.seat == number) calls)

-- what a seat's registers hold at the opening: the first one the board, and the others nothing
abbrev pub opening_held : ℕ → Value
opening_held r = if r == 0 then Object Board else Nil

-- register d holds this value, and the others hold what they did
abbrev pub with_held : (ℕ → Value) → ℕ → Value → ℕ → Value
with_held held d value = λ r. if r == d then value else held r

-- what the registers hold after a command of their seat and its reply: a refusal changes nothing, and one that leaves has nothing
abbrev pub held_after : (ℕ → Value) → Command → Reply → ℕ → Value
held_after held (commands.New d fields) (Made id) = with_held held d (Object id)
held_after held (commands.Array d cells) (Made id) = with_held held d (Object id)
held_after held (commands.Get d r i) (Got value stamp) = with_held held d value
held_after held (commands.Num d n) reply = with_held held d (Number n)
held_after held (commands.Nil d) reply = with_held held d Nil
held_after held (commands.Copy d r) reply = with_held held d (held r)
held_after held commands.Leave reply = λ r. Nil
held_after held command reply = held

-- what one reply tells, before what others do
abbrev pub if_told : Option Told → List Told → List Told
if_told None more = more
if_told (Some told) more = told ∷ more

-- what a seat's log tells from this place on, with these values in its registers
abbrev pub told_along : (ℕ → Value) → Place → List Entry → List Told
told_along held place [] = []
told_along held place (Said number command reply ∷ log) =
    if_told (telling.told_by held place command reply) (told_along (held_after held command reply) (after place command reply) log)
told_along held place (entry ∷ log) = told_along held place log

-- what a seat's log tells of its puts and takes, by nothing but its own commands and their replies
abbrev pub told_in : ℕ → List Entry → List Told
told_in number log = told_along opening_held (start 0 number) log

-- what is told of a script's command by its call: a put has the command's number, and a take the value that it got
abbrev pub IsToldOf : QueueCommand → Call → Told → Type 0
IsToldOf (Put n) (PutRefused need found) told = told ≡ tells.Put (Number n) (puts.Full need found)
IsToldOf (Put n) (PutCall v reply) told = told ≡ tells.Put (Number n) reply
IsToldOf Take (TookInto d) told = (value : Value) × (told ≡ tells.Took value)
IsToldOf Take (TakeCall reply) told = told ≡ tells.Take reply
IsToldOf command call told = ⊥

-- one is told of each command by its call, in their order, and no more
abbrev pub TellEach : List QueueCommand → List Call → List Told → Type 0
TellEach [] [] [] = Unit {0}
TellEach (command ∷ commands) (call ∷ calls) (told ∷ more) = IsToldOf command call told × TellEach commands calls more
TellEach commands calls told = ⊥
