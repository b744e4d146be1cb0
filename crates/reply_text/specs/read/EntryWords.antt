-- The entry that the words of a line are.
use Rattle.std.specs.Prelude.{ℕ, ◌^◌, List, [], ◌∷◌, Option, Some, None, bytes_eq, codes, if◌then◌else◌}
use Rattle.heap_model.specs.declared.command.TurnCommand.TheVariants as commands
use Rattle.heap_model.specs.declared.entry.Entry.{Entry}
use Rattle.heap_model.specs.declared.entry.Entry.TheVariants as entries
use Rattle.script_text.specs.declared.preamble.Preamble.{Preamble}
use Rattle.script_text.specs.declared.script.Form.{Form}
use Rattle.script_text.specs.declared.script.Form.TheVariants.{Play, Run}
use Rattle.script_text.specs.Numbers.{number_below}
use Rattle.reply_text.specs.read.Answers.{answer_at}
use Rattle.reply_text.specs.read.TurnAnswers.{turning_at, cycling_at}
use Rattle.reply_text.specs.read.Commands.{command_at}
use Rattle.reply_text.specs.read.Tokens.{◌>>=◌, first_by, after_word, number_at, word_id}

-- a seat's command and its reply, in a history of this version, from the command's first word on
abbrev pub said_at : ℕ → ℕ → List ℕ → List (List ℕ) → Option (Entry × List (List ℕ))
said_at version seat word rest = do
  command ← command_at version word rest
  told ← after_word (codes "=") command.1
  reply ← answer_at command.0 told
  Some (entries.Said seat command.0 reply.0, reply.1)

-- an entry of a seat, after its number
abbrev pub seat_entry : ℕ → ℕ → List (List ℕ) → Option (Entry × List (List ℕ))
seat_entry version seat [] = None
seat_entry version seat (word ∷ rest) =
    if bytes_eq word (codes "takes") then (do
      count ← number_at (2 ^ 32) rest
      Some (entries.Takes seat count.0, count.1))
    else if bytes_eq word (codes "gives") then (do
      back ← after_word (codes "back") rest
      count ← number_at (2 ^ 32) back
      Some (entries.GivesBack seat count.0, count.1))
    else if bytes_eq word (codes "answers") then (do
      phase ← number_at (2 ^ 64) rest
      Some (entries.Answers seat phase.0, phase.1))
    else said_at version seat word rest

-- the collector's command `turns` and its reply, after that word
abbrev pub turns_at : List (List ℕ) → Option (Entry × List (List ℕ))
turns_at rest = do
  n ← number_at 1000001 rest
  told ← after_word (codes "=") n.1
  reply ← turning_at told
  Some (entries.Turned (commands.Turns n.0) reply.0, reply.1)

-- the collector's command `cycle` and its reply, after that word
abbrev pub cycle_at : List (List ℕ) → Option (Entry × List (List ℕ))
cycle_at rest = do
  told ← after_word (codes "=") rest
  reply ← cycling_at told
  Some (entries.Turned commands.Cycle reply.0, reply.1)

-- a command of the collector and its reply, by its first word; a run has none
abbrev pub turned_at : Form → List ℕ → List (List ℕ) → Option (Entry × List (List ℕ))
turned_at Play word rest =
    if bytes_eq word (codes "turns") then turns_at rest
    else if bytes_eq word (codes "cycle") then cycle_at rest
    else None
turned_at Run word rest = None

-- a cycle that ended, after the word `ends`
abbrev pub ends_at : List (List ℕ) → Option (Entry × List (List ℕ))
ends_at rest = do
  cycle ← number_at (2 ^ 64) rest
  named ← after_word (codes "kept") cycle.1
  kept ← number_at (2 ^ 64) named
  Some (entries.Ends cycle.0 kept.0, kept.1)

-- an entry of the collector, after its word `c`
abbrev pub collector_entry : Form → List (List ℕ) → Option (Entry × List (List ℕ))
collector_entry form [] = None
collector_entry form (word ∷ rest) =
    if bytes_eq word (codes "phase") then (do
      phase ← number_at (2 ^ 64) rest
      Some (entries.Advance phase.0, phase.1))
    else if bytes_eq word (codes "frees") then (do
      count ← number_at (2 ^ 32) rest
      Some (entries.Frees count.0, count.1))
    else if bytes_eq word (codes "returns") then (do
      count ← number_at (2 ^ 32) rest
      Some (entries.Returns count.0, count.1))
    else if bytes_eq word (codes "swings") then (do
      id ← first_by word_id rest
      Some (entries.Swings id.0, id.1))
    else if bytes_eq word (codes "ends") then ends_at rest
    else turned_at form word rest

-- an entry, by its first word
abbrev pub entry_at : Form → Preamble → List ℕ → List (List ℕ) → Option (Entry × List (List ℕ))
entry_at form preamble word rest =
    if bytes_eq word (codes "c") then collector_entry form rest
    else (do
      seat ← number_below preamble.heap.seats word
      seat_entry preamble.version seat rest)
