-- The words of a line tell the line.
use Rattle.std.proofs.Common.{◌≡◌, ℕ, ◌<◌, ◌^◌, List, [], ◌∷◌, Option, Some, None, decimal, bytes_eq, unwrap_or, map, refl, arith}
use Rattle.std.specs.Map.{lookup}
use Rattle.std.specs.Str.Parse.{digits_value}
use Rattle.std.proofs.lemmas.Fmt.{decimal_is_IsNumeral}
use Rattle.heap_model.specs.declared.command.Command.{Command}
use Rattle.heap_model.specs.declared.command.Command.TheVariants.{New, Array, Get, Set, Cas, Num, Nil, Copy, Same, Len, Poll, Collect, Leave}
use Rattle.heap_model.specs.declared.command.TurnCommand.{TurnCommand}
use Rattle.heap_model.specs.declared.command.TurnCommand.TheVariants as turns
use Rattle.script_text.specs.declared.command_set.CommandSet.{CommandSet}
use Rattle.script_text.specs.declared.preamble.Preamble.{Preamble}
use Rattle.script_text.specs.declared.script.Form.{Form}
use Rattle.script_text.specs.declared.script.Form.TheVariants.{Play, Run}
use Rattle.script_text.specs.declared.script.Line.{Line}
use Rattle.script_text.specs.declared.script.Line.TheVariants as lines
use Rattle.script_text.specs.Commands.{version_commands}
use Rattle.script_text.specs.Operands.{commands_with}
use Rattle.script_text.specs.Grammar.{IsScripted, IsTurnCommand, IsLine}
use Rattle.script_text.specs.Numbers.{number_of}
use Rattle.script_text.specs.Preamble.{IsPreamble}
use Rattle.script_text.specs.Words.{command_words, turn_words, line_words}
use Rattle.script_text.proofs.Numbers.{number_below-decimal}
use Rattle.script_text.proofs.NoFault.{number_of-c}

-- the value of a number's digits
pub value-decimal : (n : ℕ) → n < 2 ^ 64 → digits_value 10 (decimal n) ≡ n
value-decimal n small = (decimal_is_IsNumeral n small).1

-- what the words of a command tell, by its name and its numbers
abbrev pub command_of : List (List ℕ) → Command
command_of [] = Leave
command_of (word ∷ rest) = unwrap_or (lookup (bytes_eq word) (commands_with (map (digits_value 10) rest))) Leave

pub command_of-words : (has : CommandSet) (command : Command) → IsScripted has command → command_of (command_words command) ≡ command
command_of-words has (New d fields) h = rw (value-decimal d (omega arith), value-decimal fields (omega arith)) refl
command_of-words has (Array d cells) h = rw (value-decimal d (omega arith), value-decimal cells (omega arith)) refl
command_of-words has (Get d r i) h = rw (value-decimal d (omega arith), value-decimal r (omega arith), value-decimal i (omega arith)) refl
command_of-words has (Set r i v) h = rw (value-decimal r (omega arith), value-decimal i (omega arith), value-decimal v (omega arith)) refl
command_of-words has (Cas r i a v) h = rw (value-decimal r (omega (arith, h.1.0)), value-decimal i (omega (arith, h.1.1)), value-decimal a (omega (arith, h.1.2)), value-decimal v (omega (arith, h.1.3))) refl
command_of-words has (Num d n) h = rw (value-decimal d (omega arith), value-decimal n (omega arith)) refl
command_of-words has (Nil d) h = rw (value-decimal d (omega arith)) refl
command_of-words has (Copy d r) h = rw (value-decimal d (omega arith), value-decimal r (omega arith)) refl
command_of-words has (Same a b) h = rw (value-decimal a (omega arith), value-decimal b (omega arith)) refl
command_of-words has (Len r) h = rw (value-decimal r (omega arith)) refl
command_of-words has Poll h = refl
command_of-words has Collect h = refl
command_of-words has Leave h = absurd h

abbrev turn_of : List (List ℕ) → TurnCommand
turn_of (word ∷ n ∷ rest) = turns.Turns (digits_value 10 n)
turn_of _ = turns.Cycle

turn_of-words : (command : TurnCommand) → IsTurnCommand command → turn_of (turn_words command) ≡ command
turn_of-words (turns.Turns n) h = rw (value-decimal n (omega arith)) refl
turn_of-words turns.Cycle h = refl

-- a line is a seat's if its first word is a number
abbrev line_with : List (List ℕ) → Option ℕ → Line
line_with rest (Some seat) = lines.Seat seat (command_of rest)
line_with rest None = lines.Turns (turn_of rest)

abbrev pub line_of : List (List ℕ) → Line
line_of [] = lines.Turns turns.Cycle
line_of (word ∷ rest) = line_with rest (number_of word)

-- the words of a line tell the line
pub line_of-words : (form : Form) (preamble : Preamble) (line : Line) → IsPreamble preamble → IsLine form preamble line → line_of (line_words line) ≡ line
line_of-words form preamble (lines.Seat seat command) is h =
    let heap = is.heap in
    rw (number_below-decimal (10 ^ 10) seat (omega arith) (omega (arith, h.0)), command_of-words (version_commands preamble.version) command h.1) refl
line_of-words Play preamble (lines.Turns command) is h = rw (number_of-c, turn_of-words command h) refl
line_of-words Run preamble (lines.Turns command) is h = absurd h
