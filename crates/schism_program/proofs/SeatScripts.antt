-- The scripts of the seats are those of a run.
use Rattle.std.proofs.Common.{◌≡◌, ◌≢◌, ℕ, ◌+◌, ◌<◌, ◌≤◌, ◌==◌, Bool, true, false, if◌then◌else◌, List, [], ◌∷◌, ◌++◌, length, map, Vec, Global, sym, ap, ◌∙◌, subst, arith}
use Rattle.std.specs.Prelude.{All, slice_index_or}
use Rattle.std.specs.List.{AllByRecursion, range_with_len}
use Rattle.std.proofs.lemmas.List.{length-map}
use Rattle.std.proofs.lemmas.List.Elements.{All-from_recursion}
use Rattle.std.proofs.lemmas.List.FromFn.{length-map-range_with_len, get_or-map-range_with_len}
use Rattle.std.proofs.Math.ListN.{get_or-map}
use Rattle.heap_model.specs.declared.command.Command.{Command}
use Rattle.heap_model.specs.declared.command.Command.TheVariants as commands
use Rattle.locked_heap.specs.Given.{IsOfScript, IsSeatScript}
use Rattle.script_text.specs.declared.command_set.CommandSet.{CommandSet}
use Rattle.script_text.specs.declared.preamble.Preamble.{Preamble}
use Rattle.script_text.specs.declared.script.Form.TheVariants.{Run}
use Rattle.script_text.specs.declared.script.Line.{Line}
use Rattle.script_text.specs.declared.script.Line.TheVariants as lines
use Rattle.script_text.specs.declared.script.Script.{Script}
use Rattle.script_text.specs.Commands.{version_commands}
use Rattle.script_text.specs.Grammar.{IsLine, IsScripted}
use Rattle.script_text.specs.Words.{preamble_of}
use Rattle.script_text.specs.Writing.{IsOfForm}
use Rattle.script_text.proofs.WordBytes.{scripted_command_is_in_range}
use Rattle.schism_program.specs.Running.{seat_commands}

-- the script of each seat, in the order of their numbers
abbrev pub scripts_by_seat : Script → List (List Command)
scripts_by_seat script = map (λ number. seat_commands number script.lines) (range_with_len 0 script.heap.seats)

-- the commands in a list of them
abbrev pub items : Vec Command Global → List Command
items script = script.items

-- a command that a script may have is one of a seat's script
not_leave : (has : CommandSet) (command : Command) → IsScripted has command → command ≢ commands.Leave
not_leave has commands.Leave is = absurd is
not_leave has _ is = λ same. cc same

of_script : (has : CommandSet) (command : Command) → IsScripted has command → IsOfScript command
of_script has command is = (scripted_command_is_in_range has command is, not_leave has command is)

-- the command of a line is one more at most
few_more : (own : Bool) (command : Command) (rest : List Command) (n : ℕ) → length rest ≤ n → length ((if own then command ∷ [] else []) ++ rest) ≤ n + 1
few_more true command rest n few = omega (arith, few)
few_more false command rest n few = omega (arith, few)

-- a seat has no more commands than there are lines
few_commands : (number : ℕ) (script : List Line) → length (seat_commands number script) ≤ length script
few_commands number [] = omega arith
few_commands number (lines.Seat other command ∷ more) = omega (arith, few_more (other == number) command (seat_commands number more) (length more) (few_commands number more))
few_commands number (lines.Turns command ∷ more) = omega (arith, few_commands number more)

-- it is one of a seat's script, as the others are
all_more : (own : Bool) (command : Command) (rest : List Command) → IsOfScript command → AllByRecursion IsOfScript rest → AllByRecursion IsOfScript ((if own then command ∷ [] else []) ++ rest)
all_more true command rest is all = (is, all)
all_more false command rest is all = all

all_commands : (front : Preamble) (number : ℕ) (script : List Line) → AllByRecursion (IsLine Run front) script → AllByRecursion IsOfScript (seat_commands number script)
all_commands front number [] all = tt
all_commands front number (lines.Seat other command ∷ more) all = all_more (other == number) command (seat_commands number more) (of_script (version_commands front.version) command all.0.1) (all_commands front number more all.1)
all_commands front number (lines.Turns command ∷ more) all = absurd all.0

-- so what each seat is handed is a script
pub seat_commands_are_script : (number : ℕ) (script : Script) → IsOfForm Run script → IsSeatScript (seat_commands number script.lines)
seat_commands_are_script number script of_form = record {
  few = omega (arith, few_commands number script.lines, of_form.short);
  each = All-from_recursion IsOfScript (seat_commands number script.lines) (all_commands (preamble_of script) number script.lines of_form.lines);
}

-- there is one for each seat
pub scripts_are_one_each : (scripts : List (Vec Command Global)) (script : Script) → map items scripts ≡ scripts_by_seat script → length scripts ≡ script.heap.seats
scripts_are_one_each scripts script same = sym (length-map scripts items) ∙ ap (length {A = List Command}) same ∙ length-map-range_with_len (λ number. seat_commands number script.lines) 0 script.heap.seats

-- each of them is
pub all_are_seat_scripts : (scripts : List (Vec Command Global)) (script : Script) → IsOfForm Run script → map items scripts ≡ scripts_by_seat script → All (λ (s : Vec Command Global). IsSeatScript s.items) scripts
all_are_seat_scripts scripts script of_form same k d below =
    let commands = λ (number : ℕ). seat_commands number script.lines in
    let found : commands k ≡ (slice_index_or scripts k d).items
    = sym (get_or-map-range_with_len commands 0 script.heap.seats k k d.items (omega (arith, below, scripts_are_one_each scripts script same)) (omega arith)) ∙ ap (λ l. slice_index_or l k d.items) (sym same) ∙ get_or-map items scripts k d in
    subst IsSeatScript found (seat_commands_are_script k script of_form)

-- and it is what the seat of its number is handed
pub handed_script_is_seats : (scripts : List (Vec Command Global)) (script : Script) (number : ℕ) → number < script.heap.seats → map items scripts ≡ scripts_by_seat script → slice_index_or (map items scripts) number [] ≡ seat_commands number script.lines
handed_script_is_seats scripts script number within same =
    ap (λ l. slice_index_or l number []) same ∙ get_or-map-range_with_len (λ n. seat_commands n script.lines) 0 script.heap.seats number number [] within (omega arith)
