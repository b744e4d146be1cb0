-- The makings, puts and takes that end in a seat's entries, each with its reply.
use Rattle.std.specs.Prelude.{◌≡◌, ℕ, zero, ◌⊎◌, List, [], ◌∷◌, Option, Some, None, Result, Ok, Err}
use Rattle.heap_model.specs.declared.command.Command.{Command}
use Rattle.heap_model.specs.declared.command.Command.TheVariants.{New, Get, Set, Copy}
use Rattle.heap_model.specs.declared.entry.Entry.{Entry}
use Rattle.heap_model.specs.declared.entry.Entry.TheVariants.{Said}
use Rattle.heap_model.specs.declared.id.Id.{Id}
use Rattle.heap_model.specs.declared.id.Value.TheVariants.{Nil}
use Rattle.heap_model.specs.declared.refusal.Full.{Full}
use Rattle.heap_model.specs.declared.reply.Reply.{Reply}
use Rattle.heap_model.specs.declared.reply.Reply.TheVariants as replies
use Rattle.heap_queue.specs.declared.replies.PutReply.{PutReply}
use Rattle.heap_queue.specs.declared.replies.PutReply.TheVariants as puts
use Rattle.heap_queue.specs.declared.replies.TakeReply.{TakeReply}
use Rattle.heap_queue.specs.declared.replies.TakeReply.TheVariants as takes
use Rattle.heap_queue.specs.Places.{Place, MakesNode, SetsLast, Rests, Gone, PutValue, PutLast, PutNext, PutHelps, PutLinks, PutSwings, TakeLast, TakeNext, TakeHelps, TakeValue, TakeUnlinks, TakeCopies, IsStep, after}

-- a making, put or take that is over, with its reply
pub data Call : Type 0 where
  -- the queue is made
  QueueMade : Call
  -- no queue is made, for want of fragments
  MakeRefused : (need found : ℕ) → Call
  -- a put that got no node, for want of fragments: it doesn't show its register
  PutRefused : (need found : ℕ) → Call
  -- another put of this register's value
  PutCall : ℕ → PutReply → Call
  -- a take whose value this register got
  TookInto : ℕ → Call
  -- another take
  TakeCall : TakeReply → Call

-- the call is over where there was no object or no field
abbrev pub if_refused : Call → Reply → Option Call
if_refused call replies.NoObject = Some call
if_refused call replies.NoField = Some call
if_refused call reply = None

-- the making, put or take that ends with this reply
abbrev pub ends : Place → Command → Reply → Option Call
ends MakesNode command (replies.Full need found) = Some (MakeRefused need found)
ends SetsLast command reply = Some QueueMade
ends Rests (New d fields) (replies.Full need found) = Some (PutRefused need found)
ends Rests (Get d r zero) reply = if_refused (TakeCall takes.NoQueue) reply
ends PutValue (Set r i v) reply = if_refused (PutCall v puts.NoQueue) reply
ends (PutLast v) command reply = if_refused (PutCall v puts.NoQueue) reply
ends (PutNext v) command reply = if_refused (PutCall v puts.NoQueue) reply
ends (PutHelps v stamp) command reply = Some (PutCall v (puts.Again stamp))
ends (PutLinks v) command (replies.Now stamp) = Some (PutCall v (puts.Again stamp))
ends (PutLinks v) command reply = if_refused (PutCall v puts.NoQueue) reply
ends (PutSwings v) command reply = Some (PutCall v puts.Ok)
ends TakeLast command reply = if_refused (TakeCall takes.NoQueue) reply
ends TakeNext command (replies.Got Nil stamp) = Some (TakeCall takes.Empty)
ends TakeNext command reply = if_refused (TakeCall takes.NoQueue) reply
ends (TakeHelps stamp) command reply = Some (TakeCall (takes.Again stamp))
ends TakeValue command reply = if_refused (TakeCall takes.NoQueue) reply
ends TakeUnlinks command (replies.Now stamp) = Some (TakeCall (takes.Again stamp))
ends TakeUnlinks command reply = if_refused (TakeCall takes.NoQueue) reply
ends TakeCopies (Copy d r) reply = Some (TookInto d)
ends place command reply = None

-- a call before others, where one ends
abbrev pub if_ends : Option Call → List Call → List Call
if_ends None calls = calls
if_ends (Some call) calls = call ∷ calls

-- the calls that end in a log, from this place on
abbrev pub calls_in : Place → List Entry → List Call
calls_in place [] = []
calls_in place (Said number command reply ∷ log) = if_ends (ends place command reply) (calls_in (after place command reply) log)
calls_in place (entry ∷ log) = calls_in place log

-- the entries are those of one call from this place up to its end: each reply answers its next command, and the last one, with which the call ends, stands last
abbrev pub IsWhole : Place → List Entry → Call → Type 0
IsWhole place [] call = ⊥
IsWhole place (Said number command reply ∷ log) call =
    IsStep place command × (((ends place command reply ≡ Some call) × (log ≡ [])) ⊎ ((ends place command reply ≡ None) × IsWhole (after place command reply) log call))
IsWhole place (entry ∷ log) call = IsWhole place log call

-- where the seat stands when the call is over
abbrev pub over : Call → Place
over (MakeRefused need found) = Gone
over call = Rests

-- what a making comes to by its result
abbrev pub make_call : Result Id Full → Call
make_call (Ok id) = QueueMade
make_call (Err full) = MakeRefused full.need full.found

-- what a put of this register's value comes to by its result
abbrev pub put_call : ℕ → PutReply → Call
put_call v (puts.Full need found) = PutRefused need found
put_call v reply = PutCall v reply

-- what a take into this register comes to by its result
abbrev pub take_call : ℕ → TakeReply → Call
take_call d takes.Took = TookInto d
take_call d reply = TakeCall reply
