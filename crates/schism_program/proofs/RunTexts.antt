-- What a run tells has a text in its script's version: its commands are those of the script, and leaves.
use Rattle.std.proofs.Common.{◌≡◌, ℕ, ◌<◌, ◌==◌, Bool, true, false, if◌then◌else◌, List, [], ◌∷◌, ◌++◌, length, refl, sym, ap, subst, ◌∙◌}
use Rattle.std.specs.List.{AllByRecursion}
use Rattle.std.proofs.lemmas.Bool.{eq-eqb}
use Rattle.heap_model.specs.declared.command.Command.{Command}
use Rattle.heap_model.specs.declared.command.Command.TheVariants as commands
use Rattle.heap_model.specs.declared.entry.Entry.{Entry}
use Rattle.heap_model.specs.declared.entry.Entry.TheVariants as entries
use Rattle.heap_model.specs.declared.heap.Heap.{Heap}
use Rattle.heap_model.specs.graph.Graph.{Graph, opening}
use Rattle.heap_model.specs.graph.Growth.{after_entry}
use Rattle.heap_model.specs.graph.Legal.{AcceptsAll, IsObjectLegal}
use Rattle.heap_model.specs.runs.Told.{commands_told}
use Rattle.script_text.specs.declared.preamble.Preamble.{Preamble}
use Rattle.script_text.specs.declared.script.Form.{Form}
use Rattle.script_text.specs.declared.script.Form.TheVariants.{Run}
use Rattle.script_text.specs.declared.script.Line.{Line}
use Rattle.script_text.specs.declared.script.Line.TheVariants as lines
use Rattle.script_text.specs.declared.script.Script.{Script}
use Rattle.script_text.specs.Grammar.{IsLine}
use Rattle.script_text.specs.Preamble.{usual_board}
use Rattle.script_text.specs.Words.{preamble_of}
use Rattle.script_text.specs.Writing.{IsOfForm}
use Rattle.reply_text.specs.declared.history.History.{History}
use Rattle.reply_text.specs.Written.{HasText, IsSpelled}
use Rattle.reply_text.proofs.read_lemmas.CommandReading.{scripted_command_is_spelled}
use Rattle.log_merge.specs.Legal.{AreLegal}
use Rattle.log_merge.proofs.merge_lemmas.Finding.{present_seat_is_there}
use Rattle.log_merge.proofs.merge_lemmas.Changes.{seat_count_after_entry}
use Rattle.log_merge.proofs.merge_lemmas.Rests.{seat_count_at_opening}
use Rattle.schism_program.specs.Running.{IsRunOf, seat_commands}

-- what holds of all holds of those behind
all_behind : {A : Type 0} (P : A → Type 0) (xs ys : List A) → AllByRecursion P (xs ++ ys) → AllByRecursion P ys
all_behind P [] ys all = all
all_behind P (x ∷ xs) ys all = all_behind P xs ys all.1

-- where each seat's commands are spelled, each entry has a text
first_is_spelled : (version number : ℕ) (command : Command) (more : List Command) → AllByRecursion (IsSpelled version) ((if number == number then command ∷ [] else []) ++ more) → IsSpelled version command
first_is_spelled version number command more all =
    (subst (λ (own : Bool). AllByRecursion (IsSpelled version) ((if own then command ∷ [] else []) ++ more)) (eq-eqb number number refl) all).0

told_have_text : (version : ℕ) (g : Graph) (told : List Entry) → AcceptsAll g told → ((number : ℕ) → number < length g.seats → AllByRecursion (IsSpelled version) (commands_told number told)) → AllByRecursion (HasText version) told
told_have_text version g [] accepts spelled = tt
told_have_text version g (entries.Said number command reply ∷ told) accepts spelled =
    let entry = entries.Said number command reply in (
      first_is_spelled version number command (commands_told number told) (spelled number (present_seat_is_there g number accepts.0.0)),
      told_have_text version (after_entry g entry) told accepts.1 (λ other within.
          all_behind (IsSpelled version) (if number == other then command ∷ [] else []) (commands_told other told) (spelled other (subst (λ n. other < n) (seat_count_after_entry g entry) within))),
    )
told_have_text version g (entry ∷ told) accepts spelled = (tt, told_have_text version g told accepts.1 spelled)

-- the commands of a script are, and a leave is
spelled_more : (version : ℕ) (own : Bool) (command : Command) (rest : List Command) → IsSpelled version command → AllByRecursion (IsSpelled version) (rest ++ commands.Leave ∷ [])
    → AllByRecursion (IsSpelled version) (((if own then command ∷ [] else []) ++ rest) ++ commands.Leave ∷ [])
spelled_more version true command rest is all = (is, all)
spelled_more version false command rest is all = all

commands_are_spelled : (front : Preamble) (number : ℕ) (script : List Line) → AllByRecursion (IsLine Run front) script → AllByRecursion (IsSpelled front.version) (seat_commands number script ++ commands.Leave ∷ [])
commands_are_spelled front number [] all = (tt, tt)
commands_are_spelled front number (lines.Seat other command ∷ more) all =
    spelled_more front.version (other == number) command (seat_commands number more) (scripted_command_is_spelled front.version command all.0.1) (commands_are_spelled front number more all.1)
commands_are_spelled front number (lines.Turns command ∷ more) all = absurd all.0

pub run_has_text : (locked : Bool) (script : Script) (history : History) → IsOfForm Run script → IsRunOf locked script history → AllByRecursion (HasText history.version) history.entries
run_has_text locked script history form ran =
    let legal : IsObjectLegal history.heap history.entries = subst (λ (f : Form). AreLegal f history.heap history.entries) ran.form ran.legal.entries in
    subst (λ version. AllByRecursion (HasText version) history.entries) (sym ran.version) (told_have_text script.version (opening history.heap) history.entries legal (λ number within.
    let below : number < script.heap.seats = subst (λ n. number < n) (seat_count_at_opening history.heap ∙ ap (λ (h : Heap). h.seats) ran.heap) within in
    subst (AllByRecursion (IsSpelled script.version)) (sym (ran.commands number below)) (commands_are_spelled (preamble_of script) number script.lines form.lines)))

-- a run in version 1 is on a board of its fields
pub run_has_board : (locked : Bool) (script : Script) (history : History) → IsOfForm Run script → IsRunOf locked script history → history.version ≡ 1 → history.heap.board ≡ usual_board
run_has_board locked script history form ran first = ap (λ (h : Heap). h.board) ran.heap ∙ form.preamble.board (sym ran.version ∙ first)
