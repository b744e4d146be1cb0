-- Which entries a history may have.
use Rattle.std.specs.Prelude.{◌≡◌, ℕ, ◌<◌, ◌^◌}
use Rattle.heap_model.specs.Command.{IsCommand}
use Rattle.heap_model.specs.declared.command.Command.{Command}
use Rattle.heap_model.specs.declared.command.Command.TheVariants.{Cas}
use Rattle.heap_model.specs.declared.entry.Entry.{Entry}
use Rattle.heap_model.specs.declared.entry.Entry.TheVariants as entries
use Rattle.script_text.specs.declared.preamble.Preamble.{Preamble}
use Rattle.script_text.specs.declared.script.Form.{Form}
use Rattle.script_text.specs.declared.script.Form.TheVariants.{Play, Run}
use Rattle.script_text.specs.Grammar.{IsTurnCommand}
use Rattle.reply_text.specs.Values.{IsId}
use Rattle.reply_text.specs.Replies.{IsReply, IsTurnReply}

-- a command that a text of this version may have: a cas is in none of version 1
abbrev pub IsSpelled : ℕ → Command → Type 0
IsSpelled version (Cas r i a v) = version ≡ 2
IsSpelled version command = Unit {0}

-- an entry that a text of this version may have, as far as its command goes
abbrev pub HasText : ℕ → Entry → Type 0
HasText version (entries.Said seat command reply) = IsSpelled version command
HasText version entry = Unit {0}

-- an entry that a history of this form may have behind this preamble; the collector has commands in a play alone
abbrev pub IsWritten : Form → Preamble → Entry → Type 0
IsWritten form preamble (entries.Said seat command reply) = (seat < preamble.heap.seats) × IsCommand command × IsReply command reply × IsSpelled preamble.version command
IsWritten form preamble (entries.Takes seat count) = (seat < preamble.heap.seats) × (count < 2 ^ 32)
IsWritten form preamble (entries.GivesBack seat count) = (seat < preamble.heap.seats) × (count < 2 ^ 32)
IsWritten form preamble (entries.Answers seat phase) = (seat < preamble.heap.seats) × (phase < 2 ^ 64)
IsWritten form preamble (entries.Advance phase) = phase < 2 ^ 64
IsWritten form preamble (entries.Frees count) = count < 2 ^ 32
IsWritten form preamble (entries.Returns count) = count < 2 ^ 32
IsWritten form preamble (entries.Swings id) = IsId id
IsWritten form preamble (entries.Ends cycle kept) = (cycle < 2 ^ 64) × (kept < 2 ^ 64)
IsWritten Play preamble (entries.Turned command reply) = IsTurnCommand command × IsTurnReply command reply
IsWritten Run preamble (entries.Turned command reply) = ⊥
