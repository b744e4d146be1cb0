-- The next line of a script.
use Rattle.std.proofs.Common.{◌≡◌, ◌≢◌, ℕ, suc, ◌+◌, ◌<◌, ◌≤◌, List, [], ◌∷◌, ◌++◌, length, get_or, take, sym, ap, subst, ◌∙◌, arith}
use Rattle.std.proofs.Math.Seq.{take-suc}
use Rattle.std.proofs.lemmas.List.Elements.{All-get_or, All-from_recursion}
use Rattle.heap_model.specs.declared.command.Command.{Command}
use Rattle.heap_model.specs.declared.command.Command.TheVariants as commands
use Rattle.heap_model.specs.calls.SeatCalls.{HasNumber}
use Rattle.script_text.specs.declared.command_set.CommandSet.{CommandSet}
use Rattle.script_text.specs.declared.script.Form.TheVariants.{Play}
use Rattle.script_text.specs.declared.script.Line.{Line}
use Rattle.script_text.specs.declared.script.Line.TheVariants as lines
use Rattle.script_text.specs.declared.script.Script.{Script}
use Rattle.script_text.specs.Commands.{version_commands}
use Rattle.script_text.specs.Grammar.{IsLine, IsScripted}
use Rattle.script_text.specs.Words.{preamble_of}
use Rattle.script_text.specs.Writing.{IsOfForm}
use Rattle.script_text.proofs.WordBytes.{scripted_command_is_in_range}
use Rattle.heap_runs.specs.PlayHeap.{PlayState, MayCall, seat_state_of}
use Rattle.heap_runs.specs.Playing.{DoesFew, IsThere, IsPlaying}

-- no line of a script is a leave
no_leave : (has : CommandSet) (command : Command) → IsScripted has command → command ≢ commands.Leave
no_leave has commands.Leave scripted = absurd scripted
no_leave has _ scripted = λ e. cc e

-- a seat that did little has numbers left
numbers_left : (state : PlayState) (number calls : ℕ) (command : Command) → calls ≤ 65536 → DoesFew state number calls → HasNumber (seat_state_of state number) command
numbers_left state number calls (commands.New d fields) short few = omega (arith, short, few.few_objects)
numbers_left state number calls (commands.Array d cells) short few = omega (arith, short, few.few_objects)
numbers_left state number calls (commands.Set r i v) short few = omega (arith, short, few.few_sets)
numbers_left state number calls (commands.Cas r i a v) short few = omega (arith, short, few.few_sets)
numbers_left state number calls _ short few = tt

module _ (script : Script) (items : List Line) (i : ℕ) (d line : Line) (all : items ≡ script.lines) (form : IsOfForm Play script) (below : i < length items) (is : get_or items i d ≡ line) where
  -- the lines with the next one
  pub taken_lines_with_next : take (i + 1) items ≡ take i items ++ line ∷ []
  taken_lines_with_next =
      let one : i + 1 ≡ suc i = omega arith in
      ap (λ (n : ℕ). take n items) one ∙ take-suc items i d below ∙ ap (λ (l : Line). take i items ++ l ∷ []) is

  here : i < length script.lines
  here = omega (arith, below, ap (length {A = Line}) all)

  line_is : get_or script.lines i d ≡ line
  line_is = ap (λ (ls : List Line). get_or ls i d) (sym all) ∙ is

  line_of_form : IsLine Play (preamble_of script) line
  line_of_form = subst (IsLine Play (preamble_of script)) line_is (All-get_or (IsLine Play (preamble_of script)) script.lines i d here (All-from_recursion (IsLine Play (preamble_of script)) script.lines form.lines))

-- what a line of a seat asks for
pub record IsNextCall (script : Script) (state : PlayState) (number : ℕ) (command : Command) : Type 0 where
  pub may : MayCall state number command
  pub stays : command ≢ commands.Leave

pub is_next_call : (script : Script) (items : List Line) (i : ℕ) (d : Line) (number : ℕ) (command : Command) (state : PlayState) → items ≡ script.lines → IsOfForm Play script
    → i < length items → get_or items i d ≡ lines.Seat number command → IsPlaying script.heap state i → IsNextCall script state number command
is_next_call script items i d number command state all form below is plays =
    let line = line_of_form script items i d (lines.Seat number command) all form below is in
    let short : i ≤ 65536 = omega (arith, form.short, below, ap (length {A = Line}) all) in
    record {
      may = record {
        within = rw plays.of_heap line.0;
        present = plays.present number line.0;
        in_range = scripted_command_is_in_range (version_commands script.version) command line.1;
        numbered = numbers_left state number i command short (plays.few number line.0);
      };
      stays = no_leave (version_commands script.version) command line.1;
    }

-- the next seat may leave
pub next_seat_may_leave : (state : PlayState) (number : ℕ) → number < state.heap.seats → IsThere state number → MayCall state number commands.Leave
next_seat_may_leave state number below there = record { within = below; present = there; in_range = tt; numbered = tt }
