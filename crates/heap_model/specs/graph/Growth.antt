-- How the graph grows with each entry.
use Rattle.std.specs.Prelude.{ℕ, ◌+◌, Bool, true, false, if◌then◌else◌, List, slice_index_or, slice_set, fold}
use Rattle.heap_model.specs.declared.id.Value.TheVariants.{Number}
use Rattle.heap_model.specs.declared.command.Command.{Command}
use Rattle.heap_model.specs.declared.command.Command.TheVariants as commands
use Rattle.heap_model.specs.declared.reply.Reply.{Reply}
use Rattle.heap_model.specs.declared.reply.Reply.TheVariants as replies
use Rattle.heap_model.specs.declared.entry.Entry.{Entry}
use Rattle.heap_model.specs.declared.entry.Entry.TheVariants as entries
use Rattle.heap_model.specs.graph.Objects.{register_cell}
use Rattle.heap_model.specs.graph.Graph.{Graph, fresh, unseen, unset}
use Rattle.heap_model.specs.graph.Changes.{with_register, add, set_cell, leave}
pub use Rattle.heap_model.specs.graph.Changes.{with_cell, write, set_stamp}

-- the graph after a seat's command and its reply; a refusal changes nothing, nor does a cas that finds another cell
abbrev pub after_reply : Graph → ℕ → Command → Reply → Graph
after_reply g number (commands.New d fields) (replies.Made id) = add g number d (fresh false fields)
after_reply g number (commands.Array d cells) (replies.Made id) = add g number d (fresh true cells)
after_reply g number (commands.Get d r i) (replies.Got value stamp) = with_register g number d (record { value = value; stamp = stamp })
after_reply g number (commands.Set r i v) (replies.Was stamp) = set_cell g number r i v
after_reply g number (commands.Cas r i a v) (replies.Was stamp) = set_cell g number r i v
after_reply g number (commands.Cas r i a v) (replies.Now stamp) = g
after_reply g number (commands.Num d n) reply = with_register g number d (unseen (Number n))
after_reply g number (commands.Nil d) reply = with_register g number d unset
after_reply g number (commands.Copy d r) reply = with_register g number d (register_cell g number r)
after_reply g number commands.Leave reply = leave g number
after_reply g number _ reply = g

-- the graph after an entry
abbrev pub after_entry : Graph → Entry → Graph
after_entry g (entries.Said number command reply) = after_reply g number command reply
after_entry g _ = g

-- the entry makes an object
abbrev pub makes : Entry → Bool
makes (entries.Said number (commands.New d fields) (replies.Made id)) = true
makes (entries.Said number (commands.Array d cells) (replies.Made id)) = true
makes _ = false

-- how many objects each seat made, after an entry
abbrev pub counts_after : List ℕ → Entry → List ℕ
counts_after counts (entries.Said number command reply) = if makes (entries.Said number command reply) then slice_set counts number (slice_index_or counts number 0 + 1) else counts
counts_after counts _ = counts

-- the graph after a history
abbrev pub graph_after : Graph → List Entry → Graph
graph_after g history = fold after_entry g history
