-- The command that stands first in the words of a line.
use Rattle.std.specs.Prelude.{ℕ, ◌&&◌, List, [], ◌∷◌, Option, Some, None, bytes_eq, codes, nat_le, if◌then◌else◌}
use Rattle.std.specs.Map.{lookup}
use Rattle.heap_model.specs.declared.command.Command.{Command}
use Rattle.heap_model.specs.declared.command.Command.TheVariants.{Leave}
use Rattle.script_text.specs.Commands.{has_command, version_commands}
use Rattle.script_text.specs.Numbers.{number_of}
use Rattle.script_text.specs.Operands.{Range, commands, commands_with}
use Rattle.reply_text.specs.read.Tokens.{◌>>=◌, first_by}

-- the number, where it is in the range
abbrev pub within : Range → ℕ → Option ℕ
within range n = if nat_le range.0 n && nat_le n range.1 then Some n else None

-- the operand that a word is, where it is in the range
abbrev pub operand_of : Range → List ℕ → Option ℕ
operand_of range word = number_of word >>= within range

-- the operands at the front of the words, one for each range
abbrev pub operands_at : List Range → List (List ℕ) → Option (List ℕ × List (List ℕ))
operands_at [] words = Some ([], words)
operands_at (range ∷ ranges) words = do
  first ← first_by (operand_of range) words
  more ← operands_at ranges first.1
  Some (first.0 ∷ more.0, more.1)

-- the command of a seat in a script that begins with this word
abbrev pub scripted_at : List ℕ → List (List ℕ) → Option (Command × List (List ℕ))
scripted_at name rest = do
  ranges ← lookup (bytes_eq name) commands
  numbers ← operands_at ranges rest
  command ← lookup (bytes_eq name) (commands_with numbers.0)
  Some (command, numbers.1)

-- the command of a seat in a history of this version that begins with this word
abbrev pub command_at : ℕ → List ℕ → List (List ℕ) → Option (Command × List (List ℕ))
command_at version word rest =
    if bytes_eq word (codes "leave") then Some (Leave, rest)
    else if has_command (version_commands version) word then scripted_at word rest
    else None
