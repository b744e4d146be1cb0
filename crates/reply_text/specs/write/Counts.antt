-- What a brief counts in the entries of a history.
use Rattle.std.specs.Prelude.{ℕ, ◌&&◌, Bool, true, false, List, count_by, sum_by}
use Rattle.heap_model.specs.declared.command.Command.TheVariants.{Leave}
use Rattle.heap_model.specs.declared.reply.Reply.{Reply}
use Rattle.heap_model.specs.declared.reply.Reply.TheVariants as replies
use Rattle.heap_model.specs.declared.entry.Entry.{Entry}
use Rattle.heap_model.specs.declared.entry.Entry.TheVariants as entries
use Rattle.reply_text.specs.declared.write.counts.BriefCounts.{BriefCounts}

-- a command of a seat was answered, and it is no leave
abbrev pub is_command : Entry → Bool
is_command (entries.Said seat Leave reply) = false
is_command (entries.Said seat command reply) = true
is_command entry = false

-- the reply is one of the four refusals
abbrev pub is_refusal : Reply → Bool
is_refusal replies.NoObject = true
is_refusal replies.NoField = true
is_refusal (replies.Full need found) = true
is_refusal (replies.SpineFull need used) = true
is_refusal reply = false

-- a seat was answered that an object was made
abbrev pub is_made : Entry → Bool
is_made (entries.Said seat command (replies.Made id)) = true
is_made entry = false

-- a command of a seat that is no leave was refused
abbrev pub is_refused : Entry → Bool
is_refused (entries.Said seat command reply) = is_command (entries.Said seat command reply) && is_refusal reply
is_refused entry = false

-- a cycle ended
abbrev pub is_end : Entry → Bool
is_end (entries.Ends cycle kept) = true
is_end entry = false

-- how many fragments the entry frees
abbrev pub freed_by : Entry → ℕ
freed_by (entries.Frees count) = count
freed_by entry = 0

-- an array was swung
abbrev pub is_swing : Entry → Bool
is_swing (entries.Swings id) = true
is_swing entry = false

-- what a brief counts, over a whole history
abbrev pub counts_of : List Entry → BriefCounts
counts_of history = record {
  commands = count_by is_command history;
  refused = count_by is_refused history;
  made = count_by is_made history;
  cycles = count_by is_end history;
  freed = sum_by freed_by history;
  swung = count_by is_swing history;
}
