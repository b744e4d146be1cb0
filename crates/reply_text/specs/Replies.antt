-- The replies that each command can give.
use Rattle.std.specs.Prelude.{◌≡◌, ◌<◌, ◌^◌}
use Rattle.heap_model.specs.declared.command.Command.{Command}
use Rattle.heap_model.specs.declared.command.Command.TheVariants.{New, Array, Get, Set, Cas, Num, Nil, Copy, Same, Len, Poll, Collect, Leave}
use Rattle.heap_model.specs.declared.command.TurnCommand.{TurnCommand}
use Rattle.heap_model.specs.declared.command.TurnCommand.TheVariants as commands
use Rattle.heap_model.specs.declared.reply.Reply.{Reply}
use Rattle.heap_model.specs.declared.reply.Reply.TheVariants as replies
use Rattle.heap_model.specs.declared.reply.TurnReply.{TurnReply}
use Rattle.heap_model.specs.declared.reply.TurnReply.TheVariants as turns
use Rattle.reply_text.specs.Values.{IsId, IsStamp, IsValue, IsWait, IsLack}

-- a reply that `new` can give
abbrev pub IsMaking : Reply → Type 0
IsMaking (replies.Made id) = IsId id
IsMaking (replies.Full need found) = IsLack need found
IsMaking _ = ⊥

-- a reply that `array` can give
abbrev pub IsArraying : Reply → Type 0
IsArraying (replies.SpineFull need used) = IsLack need used
IsArraying reply = IsMaking reply

-- the reply tells that there is no such object or no such field
abbrev pub TellsNoPlace : Reply → Type 0
TellsNoPlace replies.NoObject = Unit {0}
TellsNoPlace replies.NoField = Unit {0}
TellsNoPlace _ = ⊥

-- a reply that `get` can give
abbrev pub IsGetting : Reply → Type 0
IsGetting (replies.Got value stamp) = IsValue value × IsStamp stamp
IsGetting reply = TellsNoPlace reply

-- a reply that `set` can give
abbrev pub IsSetting : Reply → Type 0
IsSetting (replies.Was stamp) = IsStamp stamp
IsSetting reply = TellsNoPlace reply

-- a reply that `cas` can give
abbrev pub IsSwapping : Reply → Type 0
IsSwapping (replies.Now stamp) = IsStamp stamp
IsSwapping reply = IsSetting reply

-- a reply that `same` can give
abbrev pub IsComparing : Reply → Type 0
IsComparing replies.Yes = Unit {0}
IsComparing replies.No = Unit {0}
IsComparing _ = ⊥

-- a reply that `len` can give
abbrev pub IsMeasuring : Reply → Type 0
IsMeasuring (replies.Length n) = n < 2 ^ 16
IsMeasuring replies.NoObject = Unit {0}
IsMeasuring _ = ⊥

-- a reply that `poll` can give
abbrev pub IsPolling : Reply → Type 0
IsPolling (replies.Phase p) = p < 2 ^ 64
IsPolling _ = ⊥

-- a reply that `collect` can give
abbrev pub IsCollecting : Reply → Type 0
IsCollecting (replies.Cycle j) = j < 2 ^ 64
IsCollecting (replies.Waits seat answered phase) = IsWait seat answered phase
IsCollecting _ = ⊥

-- a reply that the command can give
abbrev pub IsReply : Command → Reply → Type 0
IsReply (New d fields) reply = IsMaking reply
IsReply (Array d cells) reply = IsArraying reply
IsReply (Get d r i) reply = IsGetting reply
IsReply (Set r i v) reply = IsSetting reply
IsReply (Cas r i a v) reply = IsSwapping reply
IsReply (Num d n) reply = reply ≡ replies.Done
IsReply (Nil d) reply = reply ≡ replies.Done
IsReply (Copy d r) reply = reply ≡ replies.Done
IsReply (Same a b) reply = IsComparing reply
IsReply (Len r) reply = IsMeasuring reply
IsReply Poll reply = IsPolling reply
IsReply Collect reply = IsCollecting reply
IsReply Leave reply = reply ≡ replies.Done

-- a reply that the collector's command can give
abbrev pub IsTurnReply : TurnCommand → TurnReply → Type 0
IsTurnReply (commands.Turns n) turns.Done = Unit {0}
IsTurnReply commands.Cycle (turns.Cycle j) = j < 2 ^ 64
IsTurnReply command (turns.Waits seat answered phase) = IsWait seat answered phase
IsTurnReply command _ = ⊥
