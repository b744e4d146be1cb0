-- Which texts are of a grammar, and which are scripts.
use Rattle.std.specs.Prelude.{◌≡◌, ℕ, ◌+◌, ◌<◌, ◌≤◌, Bool, true, List, length}
use Rattle.std.specs.List.{AllByRecursion}
use Rattle.heap_model.specs.Limits.{most_turns}
use Rattle.heap_model.specs.declared.command.Command.{Command}
use Rattle.heap_model.specs.declared.command.Command.TheVariants.{Cas, Collect, Leave}
use Rattle.heap_model.specs.declared.command.TurnCommand.{TurnCommand}
use Rattle.heap_model.specs.declared.command.TurnCommand.TheVariants as turns
use Rattle.heap_model.specs.declared.heap.Heap.{Heap}
use Rattle.heap_model.specs.Command.{IsCommand}
use Rattle.script_text.specs.declared.command_set.CommandSet.{CommandSet}
use Rattle.script_text.specs.declared.preamble.Preamble.{Preamble}
use Rattle.script_text.specs.declared.script.Form.{Form}
use Rattle.script_text.specs.declared.script.Form.TheVariants.{Play, Run}
use Rattle.script_text.specs.declared.script.Line.{Line}
use Rattle.script_text.specs.declared.script.Line.TheVariants as lines
use Rattle.script_text.specs.declared.script.Script.{Script}
use Rattle.script_text.specs.Commands.{version_commands}
use Rattle.script_text.specs.Preamble.{IsPreamble}
use Rattle.script_text.specs.Text.{lines_of}
use Rattle.script_text.specs.Words.{line_words, preamble_of, script_header, text_lines}

-- a command that a line of a text with these may have, with its numbers in their ranges
abbrev pub IsScripted : CommandSet → Command → Type 0
IsScripted has (Cas r i a v) = (has.cas ≡ true) × IsCommand (Cas r i a v)
IsScripted has Collect = has.collect ≡ true
IsScripted has Leave = ⊥
IsScripted has command = IsCommand command

-- a command of the collector, with its number in its range
abbrev pub IsTurnCommand : TurnCommand → Type 0
IsTurnCommand (turns.Turns n) = n ≤ most_turns
IsTurnCommand turns.Cycle = Unit {0}

-- a line of a script of this form behind this preamble; a run has no commands of the collector
abbrev pub IsLine : Form → Preamble → Line → Type 0
IsLine form preamble (lines.Seat seat command) = (seat < preamble.heap.seats) × IsScripted (version_commands preamble.version) command
IsLine Play preamble (lines.Turns command) = IsTurnCommand command
IsLine Run preamble (lines.Turns command) = ⊥

-- the most lines of a text
abbrev pub most_lines : ℕ
most_lines = 65536

-- what a text of a grammar tells: a preamble whose heap it takes, and lines each of which may follow
pub record IsTold {L : Type 0} (takes : Heap → Bool) (MayFollow : Preamble → L → Type 0) (front : Preamble) (behind : List L) : Type 0 where
  pub preamble : IsPreamble front
  pub taken : takes front.heap ≡ true
  pub lines : AllByRecursion (MayFollow front) behind
  pub short : length behind + 2 ≤ most_lines

-- the text spells this preamble and these lines, by the first line of each version and by the words of each line
pub record IsText {L : Type 0} (takes : Heap → Bool) (header : ℕ → List ℕ) (words : L → List (List ℕ)) (MayFollow : Preamble → L → Type 0) (text : List ℕ) (front : Preamble) (behind : List L) : Type 0 where
  pub spelled : lines_of text ≡ text_lines (header front.version) words front behind
  pub told : IsTold takes MayFollow front behind

-- a script may ask for each heap
abbrev pub takes_any : Heap → Bool
takes_any heap = true

-- the text spells this script, which is of the grammar in this form
abbrev pub IsScript : Form → List ℕ → Script → Type 0
IsScript form text script = IsText takes_any script_header line_words (IsLine form) text (preamble_of script) script.lines
