-- Where a seat stands in the making of the queue, in its puts and in its takes, and which of its commands may come next.
use Rattle.std.specs.Prelude.{◌≡◌, ℕ, zero, ◌⊎◌}
use Rattle.heap_model.specs.declared.command.Command.{Command}
use Rattle.heap_model.specs.declared.command.Command.TheVariants.{New, Get, Set, Cas, Num, Nil as NilCommand, Copy, Same, Poll, Leave}
use Rattle.heap_model.specs.declared.id.Value.TheVariants.{Nil, Object}
use Rattle.heap_model.specs.declared.reply.Reply.{Reply}
use Rattle.heap_model.specs.declared.reply.Reply.TheVariants.{Made, Got, Was, Yes, No}
use Rattle.heap_model.specs.Command.{IsWithin}

-- where a seat stands, named by its next call of the heap: a put keeps the register of its value, and an Again to come the stamp that it will show
pub data Place : Type 0 where
  -- in the making of the queue
  MakesNode : Place
  SetsFirst : Place
  SetsLast : Place
  -- outside of puts and takes: before it has found the queue, between them, and when nothing comes any more
  Waits : Place
  Rests : Place
  Gone : Place
  -- in a put
  PutValue : Place
  PutLast : ℕ → Place
  PutNext : ℕ → Place
  PutHelps : ℕ → ℕ → Place
  PutLinks : ℕ → Place
  PutSwings : ℕ → Place
  -- in a take
  TakeLast : Place
  TakeNext : Place
  TakeSame : ℕ → Place
  TakeHelps : ℕ → Place
  TakeValue : Place
  TakeUnlinks : Place
  TakeCopies : Place

-- a register that puts and takes leave to their caller
abbrev pub IsFree : ℕ → Type 0
IsFree r = IsWithin 1 10 r

-- the command is the next one of the making, of a put or of a take; where a seat rests it begins a put or a take
abbrev pub IsStep : Place → Command → Type 0
IsStep MakesNode command = command ≡ New 15 2
IsStep SetsFirst command = command ≡ Set 0 0 15
IsStep SetsLast command = command ≡ Set 0 1 15
IsStep Waits command = ⊥
IsStep Rests command = (command ≡ New 15 2) ⊎ (command ≡ Get 14 0 0)
IsStep Gone command = ⊥
IsStep PutValue command = (v : ℕ) × IsFree v × (command ≡ Set 15 0 v)
IsStep (PutLast v) command = command ≡ Get 14 0 1
IsStep (PutNext v) command = command ≡ Get 13 14 1
IsStep (PutHelps v stamp) command = command ≡ Cas 0 1 14 13
IsStep (PutLinks v) command = command ≡ Cas 14 1 13 15
IsStep (PutSwings v) command = command ≡ Cas 0 1 14 15
IsStep TakeLast command = command ≡ Get 13 0 1
IsStep TakeNext command = command ≡ Get 12 14 1
IsStep (TakeSame stamp) command = command ≡ Same 14 13
IsStep (TakeHelps stamp) command = command ≡ Cas 0 1 13 12
IsStep TakeValue command = command ≡ Get 11 12 0
IsStep TakeUnlinks command = command ≡ Cas 0 0 14 12
IsStep TakeCopies command = (d : ℕ) × IsFree d × (command ≡ Copy d 11)

-- the command may stand between puts and takes: it writes a free register, looks for the queue, polls or leaves
abbrev pub IsBetween : Command → Type 0
IsBetween (Num d n) = IsFree d
IsBetween (NilCommand d) = IsFree d
IsBetween (Get d r i) = Get d r i ≡ Get 14 0 1
IsBetween Poll = Unit {0}
IsBetween Leave = Unit {0}
IsBetween _ = ⊥

-- the command may come next
abbrev pub IsDue : Place → Command → Type 0
IsDue Waits command = IsBetween command
IsDue Rests command = IsBetween command ⊎ IsStep Rests command
IsDue place command = IsStep place command

-- where the seat stands after a command and its reply: a put or take that is refused is over, and a making that is refused leaves no queue
abbrev pub after : Place → Command → Reply → Place
after MakesNode command (Made id) = SetsFirst
after MakesNode command reply = Gone
after SetsFirst command reply = SetsLast
after SetsLast command reply = Rests
after Waits Leave reply = Gone
after Waits (Get d r i) (Got (Object id) stamp) = Rests
after Waits command reply = Waits
after Rests Leave reply = Gone
after Rests (New d fields) (Made id) = PutValue
after Rests (Get d r zero) (Got value stamp) = TakeLast
after Gone command reply = Gone
after PutValue (Set r i v) (Was stamp) = PutLast v
after (PutLast v) command (Got value stamp) = PutNext v
after (PutNext v) command (Got (Object id) stamp) = PutHelps v stamp
after (PutNext v) command (Got value stamp) = PutLinks v
after (PutLinks v) command (Was stamp) = PutSwings v
after TakeLast command (Got value stamp) = TakeNext
after TakeNext command (Got Nil stamp) = Rests
after TakeNext command (Got value stamp) = TakeSame stamp
after (TakeSame stamp) command Yes = TakeHelps stamp
after (TakeSame stamp) command No = TakeValue
after TakeValue command (Got value stamp) = TakeUnlinks
after TakeUnlinks command (Was stamp) = TakeCopies
after place command reply = Rests
