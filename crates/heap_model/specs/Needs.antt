-- The fragments and spine words that commands ask for.
use Rattle.std.specs.Prelude.{ℕ, ◌+◌, ◌-◌, ◌/◌}
use Rattle.heap_model.specs.declared.command.Command.{Command}
use Rattle.heap_model.specs.declared.command.Command.TheVariants as commands
use Rattle.heap_model.specs.declared.reply.Reply.{Reply}
use Rattle.heap_model.specs.declared.reply.Reply.TheVariants as replies

-- the fragments of a record: a head with two fields, and three fields in each further fragment
abbrev pub record_fragments : ℕ → ℕ
record_fragments fields = 1 + (fields - 2 + 2) / 3

-- the spine words of an array: one for each four cells
abbrev pub array_words : ℕ → ℕ
array_words cells = (cells + 3) / 4

-- the fragments of an array: a sentinel, and a fragment for each spine word
abbrev pub array_fragments : ℕ → ℕ
array_fragments cells = 1 + array_words cells

-- the fragments that a command asks for
abbrev pub need_of : Command → ℕ
need_of (commands.New d fields) = record_fragments fields
need_of (commands.Array d cells) = array_fragments cells
need_of _ = 0

-- the spine words that a command asks for
abbrev pub spine_need_of : Command → ℕ
spine_need_of (commands.Array d cells) = array_words cells
spine_need_of _ = 0

-- the fragments of the object that a command made
abbrev pub made_by : Command → Reply → ℕ
made_by command (replies.Made id) = need_of command
made_by command _ = 0

-- the spine words of the array that a command made
abbrev pub words_by : Command → Reply → ℕ
words_by command (replies.Made id) = spine_need_of command
words_by command _ = 0
