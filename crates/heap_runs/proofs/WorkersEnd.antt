-- What the workers of a run hand back.
use Rattle.std.proofs.Common.{◌≡◌, ℕ, List, length, map, Some, Ok, Err, Result, sym, ap, ◌∙◌}
use Rattle.std.specs.Prelude.{slice_get, option_map, IfOk}
use Rattle.std.proofs.lemmas.List.{length-map}
use Rattle.std.proofs.lemmas.Option.{slice_get-map}
use Rattle.heap_model.specs.declared.command.Command.{Command}
use Rattle.heap_model.specs.declared.fault.Memory.{Memory}
use Rattle.heap_table.specs.SeatHeld.{SeatHeld}
use Rattle.heap_runs.specs.SeatWork.{HaveEnded, HaveWorked}

-- a worker came to its end with this seat
abbrev ok_of : SeatHeld → Result SeatHeld Memory
ok_of seat = Ok seat

-- where each came to its end, each has worked
pub all_have_worked : (patience : ℕ) (scripts : List (List Command)) (olds back : List SeatHeld) (ends : List (Result SeatHeld Memory)) → HaveEnded patience scripts olds ends → ends ≡ map ok_of back
    → HaveWorked patience scripts olds back
all_have_worked patience scripts olds back ends ended is = record {
  each_once = sym (length-map back ok_of) ∙ sym (ap (length {A = Result SeatHeld Memory}) is) ∙ ended.each_once;
  each = λ position old new was now.
      let here : slice_get ends position ≡ Some (Ok new) =
      ap (λ (l : List (Result SeatHeld Memory)). slice_get l position) is ∙ slice_get-map ok_of back position ∙ ap (option_map ok_of) now in
      ended.each position old (Ok new) was here;
}

-- what follows of a value follows of the value where there is one
pub if_ok_implied : {A E : Type 0} (P Q : A → Type 0) (result : Result A E) → ((value : A) → P value → Q value) → IfOk result P → IfOk result Q
if_ok_implied P Q (Ok value) then_so holds = then_so value holds
if_ok_implied P Q (Err error) then_so holds = tt
