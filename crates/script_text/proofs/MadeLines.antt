-- Made lines, one after the other.
use Rattle.std.proofs.Common.{◌≡◌, ℕ, ◌+◌, ◌<◌, ◌≤◌, ◌%◌, inl, List, [], ◌∷◌, ◌++◌, map, length, refl, sym, add-one, arith, rules}
use Rattle.std.specs.List.{AllByRecursion, range_with_len}
use Rattle.std.proofs.lemmas.List.FromFn.{length-map-range_with_len, map-range_with_len_more}
use Rattle.heap_model.specs.Command.{IsWithin}
use Rattle.heap_model.specs.Limits.{most_seats}
use Rattle.script_text.specs.declared.preamble.Preamble.{Preamble}
use Rattle.script_text.specs.declared.script.Form.{Form}
use Rattle.script_text.specs.declared.script.Line.{Line}
use Rattle.script_text.specs.declared.script.Line.TheVariants as lines
use Rattle.script_text.specs.Commands.{version_commands}
use Rattle.script_text.specs.Generator.{state_after_draws}
use Rattle.script_text.specs.Grammar.{IsLine, IsScripted}
use Rattle.script_text.specs.Made.{made_command, made_heap, made_line, draws_of, most_made_lines, state_before}
use Rattle.script_text.specs.Writing.{IsOfForm}

-- the lines up to a number
abbrev pub lines_before : ℕ → ℕ → ℕ → List Line
lines_before start seats number = map (made_line start seats) (range_with_len 0 number)

-- the line of the next number stands behind them
pub lines_before_next : (start seats number state : ℕ) (before after : List Line) (line : Line) → before ≡ lines_before start seats number → state ≡ state_before start seats number →
    line ≡ lines.Seat (number % seats) (made_command seats number state) → after ≡ before ++ line ∷ [] → after ≡ lines_before start seats (number + 1)
lines_before_next start seats number state before after line e f g h =
    rw (h, e, g, f) (sym (map-range_with_len_more (made_line start seats) 0 number number (omega arith)))

-- the state before the next line
pub state_before_next : (start seats number state next : ℕ) → state ≡ state_before start seats number → next ≡ state_after_draws (draws_of (made_command seats number state)) state →
    next ≡ state_before start seats (number + 1)
state_before_next start seats number state next e f = rw (f, e, add-one) refl

-- with a last one for which it holds too, a fact holds of all
AllByRecursion-push : {X : Type 0} (P : X → Type 0) (xs : List X) (x : X) → AllByRecursion P xs → P x → AllByRecursion P (xs ++ x ∷ [])
AllByRecursion-push P [] x all here = (here, tt)
AllByRecursion-push P (y ∷ ys) x all here = (all.0, AllByRecursion-push P ys x all.1 here)

-- what the first two lines of a made script tell
abbrev pub made_preamble : ℕ → Preamble
made_preamble seats = record { version = 1; heap = made_heap seats }

-- a line more is of the grammar, in each form
pub made_lines_stay_in_grammar : (form : Form) (seats number state : ℕ) (before after : List Line) (line : Line) → 1 ≤ seats → IsScripted (version_commands 1) (made_command seats number state) →
    line ≡ lines.Seat (number % seats) (made_command seats number state) → after ≡ before ++ line ∷ [] →
    AllByRecursion (IsLine form (made_preamble seats)) before → AllByRecursion (IsLine form (made_preamble seats)) after
made_lines_stay_in_grammar form seats number state before after line some scripted e f range =
    let below : number % seats < seats = omega arith in
    let here : IsLine form (made_preamble seats) line = rw e (below, scripted) in
    rw f (AllByRecursion-push (IsLine form (made_preamble seats)) before line range here)

-- lines of a number are of a script for plays and runs
pub IsOfForm-made : (form : Form) (start seats count : ℕ) (made : List Line) → IsWithin 1 most_seats seats → count ≤ most_made_lines → made ≡ lines_before start seats count →
    AllByRecursion (IsLine form (made_preamble seats)) made → IsOfForm form (record { version = 1; heap = made_heap seats; lines = made })
IsOfForm-made form start seats count made within few e range =
    let counted : length made ≡ count = rw e (length-map-range_with_len (made_line start seats) 0 count) in
    record {
      preamble = record { version = inl refl; heap = search (rules, within); board = λ first. refl };
      taken = refl;
      lines = range;
      short = omega (arith, counted);
    }
