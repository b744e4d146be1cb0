-- The words of lines have no space and no line feed.
use Rattle.std.proofs.Common.{ℕ, ◌==◌, ◌<◌, ◌^◌, [], ◌∷◌, Bool, true, false, cond, codes, decimal, refl, arith}
use Rattle.std.specs.List.{AllByRecursion}
use Rattle.heap_model.specs.Command.{IsCommand}
use Rattle.heap_model.specs.declared.command.Command.{Command}
use Rattle.heap_model.specs.declared.command.Command.TheVariants.{New, Array, Get, Set, Cas, Num, Nil, Copy, Same, Len, Poll, Collect, Leave}
use Rattle.heap_model.specs.declared.command.TurnCommand.{TurnCommand}
use Rattle.heap_model.specs.declared.command.TurnCommand.TheVariants as turns
use Rattle.script_text.specs.declared.command_set.CommandSet.{CommandSet}
use Rattle.script_text.specs.declared.preamble.Preamble.{Preamble}
use Rattle.script_text.specs.declared.script.Form.{Form}
use Rattle.script_text.specs.declared.script.Form.TheVariants.{Play, Run}
use Rattle.script_text.specs.declared.script.Line.{Line}
use Rattle.script_text.specs.declared.script.Line.TheVariants as lines
use Rattle.script_text.specs.Commands.{version_commands}
use Rattle.script_text.specs.Grammar.{IsScripted, IsTurnCommand, IsLine}
use Rattle.script_text.specs.Preamble.{IsPreamble}
use Rattle.script_text.specs.Words.{board_words, command_words, turn_words, line_words, heap_words}
use Rattle.script_text.proofs.Tokens.{IsAbove, IsAbove-decimal, IsAbove-from_test}

-- each word of a command has bytes above the space alone
pub command_words-above : (command : Command) → IsCommand command → AllByRecursion (IsAbove 32) (command_words command)
command_words-above (New d fields) h = (IsAbove-from_test 32 (codes "new") refl, (IsAbove-decimal d (omega arith), (IsAbove-decimal fields (omega arith), tt)))
command_words-above (Array d cells) h = (IsAbove-from_test 32 (codes "array") refl, (IsAbove-decimal d (omega arith), (IsAbove-decimal cells (omega arith), tt)))
command_words-above (Get d r i) h = (IsAbove-from_test 32 (codes "get") refl, (IsAbove-decimal d (omega arith), (IsAbove-decimal r (omega arith), (IsAbove-decimal i (omega arith), tt))))
command_words-above (Set r i v) h = (IsAbove-from_test 32 (codes "set") refl, (IsAbove-decimal r (omega arith), (IsAbove-decimal i (omega arith), (IsAbove-decimal v (omega arith), tt))))
command_words-above (Cas r i a v) h = (IsAbove-from_test 32 (codes "cas") refl, (IsAbove-decimal r (omega arith), (IsAbove-decimal i (omega arith), (IsAbove-decimal a (omega arith), (IsAbove-decimal v (omega arith), tt)))))
command_words-above (Num d n) h = (IsAbove-from_test 32 (codes "num") refl, (IsAbove-decimal d (omega arith), (IsAbove-decimal n (omega arith), tt)))
command_words-above (Nil d) h = (IsAbove-from_test 32 (codes "nil") refl, (IsAbove-decimal d (omega arith), tt))
command_words-above (Copy d r) h = (IsAbove-from_test 32 (codes "copy") refl, (IsAbove-decimal d (omega arith), (IsAbove-decimal r (omega arith), tt)))
command_words-above (Same a b) h = (IsAbove-from_test 32 (codes "same") refl, (IsAbove-decimal a (omega arith), (IsAbove-decimal b (omega arith), tt)))
command_words-above (Len r) h = (IsAbove-from_test 32 (codes "len") refl, (IsAbove-decimal r (omega arith), tt))
command_words-above Poll h = (IsAbove-from_test 32 (codes "poll") refl, tt)
command_words-above Collect h = (IsAbove-from_test 32 (codes "collect") refl, tt)
command_words-above Leave h = (IsAbove-from_test 32 (codes "leave") refl, tt)

pub turn_words-above : (command : TurnCommand) → IsTurnCommand command → AllByRecursion (IsAbove 32) (turn_words command)
turn_words-above (turns.Turns n) h = (IsAbove-from_test 32 (codes "turns") refl, (IsAbove-decimal n (omega arith), tt))
turn_words-above turns.Cycle h = (IsAbove-from_test 32 (codes "cycle") refl, tt)

-- a command of a script has its numbers in their ranges
pub scripted_command_is_in_range : (has : CommandSet) (command : Command) → IsScripted has command → IsCommand command
scripted_command_is_in_range has (Cas r i a v) h = h.1
scripted_command_is_in_range has Collect h = tt
scripted_command_is_in_range has Leave h = absurd h
scripted_command_is_in_range has _ h = h

-- and so has each word of a line
pub line_words-above : (form : Form) (preamble : Preamble) (line : Line) → IsPreamble preamble → IsLine form preamble line → AllByRecursion (IsAbove 32) (line_words line)
line_words-above form preamble (lines.Seat seat command) is h =
    let heap = is.heap in
    (IsAbove-decimal seat (omega (arith, h.0)), command_words-above command (scripted_command_is_in_range (version_commands preamble.version) command h.1))
line_words-above Play preamble (lines.Turns command) is h = (IsAbove-from_test 32 (codes "c") refl, turn_words-above command h)
line_words-above Run preamble (lines.Turns command) is h = absurd h

board_words-above : (version board : ℕ) → board < 2 ^ 64 → AllByRecursion (IsAbove 32) (board_words version board)
board_words-above version board small =
    let P : Bool → Type 0 = λ b. AllByRecursion (IsAbove 32) (cond b (decimal board ∷ []) []) in
    let parts : (b : Bool) → P b = λ b. elim b as P [ true ↦ (IsAbove-decimal board small, tt) | false ↦ tt ] in
    parts (version == 2)

-- and of a heap line
pub heap_words-above : (preamble : Preamble) → IsPreamble preamble → AllByRecursion (IsAbove 32) (codes "heap" ∷ heap_words preamble)
heap_words-above preamble is =
    let heap = is.heap in (
      IsAbove-from_test 32 (codes "heap") refl,
      (
        IsAbove-decimal preamble.heap.groups (omega arith),
        (IsAbove-decimal preamble.heap.spine (omega arith), (IsAbove-decimal preamble.heap.seats (omega arith), board_words-above preamble.version preamble.heap.board (omega arith))),
      ),
    )
