-- What is wrong with a line after the heap line.
use Rattle.std.specs.Prelude.{ℕ, Bool, false, List, [], ◌∷◌, Option, Some, None, bytes_eq, codes, nat_lt, if◌then◌else◌}
use Rattle.std.specs.Option.{option_map_or}
use Rattle.std.specs.Map.{lookup}
use Rattle.script_text.specs.declared.cause.Cause.{Cause}
use Rattle.script_text.specs.declared.cause.Cause.TheVariants.{NoSeat, NoCommand}
use Rattle.script_text.specs.declared.command_set.CommandSet.{CommandSet}
use Rattle.script_text.specs.declared.preamble.Preamble.{Preamble}
use Rattle.script_text.specs.declared.script.Form.{Form}
use Rattle.script_text.specs.declared.script.Form.TheVariants.{Play, Run}
use Rattle.script_text.specs.Commands.{has_command, version_commands}
use Rattle.script_text.specs.Grammar.{takes_any}
use Rattle.script_text.specs.Judge.{Judge}
use Rattle.script_text.specs.Numbers.{number_of}
use Rattle.script_text.specs.Operands.{Range, commands, turn_commands, operands_fault}

-- what is wrong with a named command: its operands, or that there is no such command
abbrev pub named_fault : Option (List Range) → List (List ℕ) → Option Cause
named_fault None rest = Some NoCommand
named_fault (Some ranges) rest = operands_fault ranges rest

-- what is wrong with these words as a command of the table
abbrev pub command_fault : List (List ℕ × List Range) → List (List ℕ) → Option Cause
command_fault table [] = Some NoCommand
command_fault table (word ∷ rest) = named_fault (lookup (bytes_eq word) table) rest

-- what is wrong with these words as a command of a seat, in a text that has these
abbrev pub seat_command_fault : CommandSet → List (List ℕ) → Option Cause
seat_command_fault has [] = Some NoCommand
seat_command_fault has (word ∷ rest) =
    if has_command has word then command_fault commands (word ∷ rest) else Some NoCommand

-- the word is a number below the limit
abbrev pub is_below : ℕ → List ℕ → Bool
is_below limit word = option_map_or (λ n. nat_lt n limit) (number_of word) false

-- the word is the collector's, which has lines in a play alone
abbrev pub is_collector : Form → List ℕ → Bool
is_collector Play word = bytes_eq word (codes "c")
is_collector Run word = false

-- what is wrong with the words of a line of a script after the heap line
abbrev pub words_fault : Form → Preamble → List (List ℕ) → Option Cause
words_fault form preamble [] = Some NoSeat
words_fault form preamble (word ∷ rest) =
    if is_below preamble.heap.seats word then seat_command_fault (version_commands preamble.version) rest
    else if is_collector form word then command_fault turn_commands rest
    else Some NoSeat

-- the version that the first line of a script tells
abbrev pub script_version : List ℕ → Option ℕ
script_version line =
    if bytes_eq line (codes "schism 1") then Some 1
    else if bytes_eq line (codes "schism 2") then Some 2
    else None

-- how a script is judged
abbrev pub script_judge : Form → Judge
script_judge form = record { version_of = script_version; takes = takes_any; words_fault = words_fault form }
