-- What seats that have served their scripts and left come to.
use Rattle.std.proofs.Common.{◌≡◌, ℕ, ◌<◌, ◌≤◌, inl, inr, List, [], ◌∷◌, ◌++◌, length, map, get_or, Some, Ok, Result, refl, sym, ap, ◌∙◌, subst, append_assoc, arith}
use Rattle.std.specs.Prelude.{slice_get, option_map, All}
use Rattle.std.specs.List.{range_with_len}
use Rattle.std.proofs.lemmas.Bool.{cases_lt}
use Rattle.std.proofs.lemmas.List.{length-map}
use Rattle.std.proofs.lemmas.Option.{slice_get-get_or, slice_get-map}
use Rattle.atomic_table.specs.Seated.{TableId}
use Rattle.heap_model.specs.Limits.{stamp_limit}
use Rattle.heap_model.specs.Logs.{log_of, logs_of}
use Rattle.heap_model.specs.declared.entry.Entry.{Entry}
use Rattle.heap_model.specs.declared.fault.Memory.{Memory}
use Rattle.heap_model.specs.declared.heap.Heap.{Heap}
use Rattle.heap_model.specs.graph.Legal.{IsObjectLegal}
use Rattle.heap_table.specs.SeatHeld.{SeatHeld}
use Rattle.heap_runs.specs.Finishing.{HasGone}
use Rattle.heap_runs.specs.SeatWork.{sets_of}
use Rattle.heap_runs.proofs.RunsEnd.{same_numbers}
use Rattle.heap_queue.specs.declared.queue_command.QueueCommand.{QueueCommand}
use Rattle.heap_queue.specs.Effects.{start}
use Rattle.heap_queue.specs.Grows.{MakesFirst}
use Rattle.heap_queue.specs.Histories.{IsQueueLog, IsQueueHistory}
use Rattle.heap_queue.specs.Running.{script_at}
use Rattle.heap_queue.specs.Served.{HasServed}
use Rattle.heap_queue.specs.Working.{HasWorked, HaveEnded, HaveWorked}
use Rattle.heap_queue.proofs.ClosedLogs.{as_many, number_is_place, log_there, none_past}
use Rattle.heap_queue.proofs.FirstClaims.{makes_first_more}

-- a worker came to its end with this seat
abbrev ok_of : SeatHeld → Result SeatHeld Memory
ok_of seat = Ok seat

-- where each came to its end, each has worked
pub all_have_worked : (table : TableId) (heap : Heap) (scripts : List (List QueueCommand)) (olds back : List SeatHeld) (ends : List (Result SeatHeld Memory)) → HaveEnded table heap scripts olds ends → ends ≡ map ok_of back
    → HaveWorked table heap scripts olds back
all_have_worked table heap scripts olds back ends ended is = record {
  each_once = sym (length-map back ok_of) ∙ sym (ap (length {A = Result SeatHeld Memory}) is) ∙ ended.each_once;
  each = λ position old new was now.
      let here : slice_get ends position ≡ Some (Ok new) =
      ap (λ (l : List (Result SeatHeld Memory)). slice_get l position) is ∙ slice_get-map ok_of back position ∙ ap (option_map ok_of) now in
      ended.each position old (Ok new) was here;
}

module _ (table : TableId) (heap : Heap) (scripts : List (List QueueCommand)) (olds news : List SeatHeld) (worked : HaveWorked table heap scripts olds news) where
  one : (k : ℕ) (d : SeatHeld) → k < length news → HasWorked table heap (get_or olds k d).number (script_at scripts (get_or olds k d).number) (get_or news k d)
  one k d few = worked.each k (get_or olds k d) (get_or news k d) (slice_get-get_or olds k d (omega (arith, few, worked.each_once))) (slice_get-get_or news k d few)

  -- the seats have the numbers that they had
  pub numbers_stay : map (λ seat. seat.number) news ≡ map (λ seat. seat.number) olds
  numbers_stay = same_numbers olds news worked.each_once (λ k old new was now. (worked.each k old new was now).number_is)

  -- each has gone
  pub all_gone : All (HasGone table heap) news
  all_gone k d few = (one k d few).gone

  -- each has done few sets
  pub all_few : All (λ seat. sets_of seat < stamp_limit) news
  all_few k d few = (one k d few).few

  -- each has served the script of its number
  pub all_served : All (λ seat. HasServed seat.number (script_at scripts seat.number) seat.seat.mine) news
  all_served k d few =
      let its = one k d few in
      subst (λ (n : ℕ). HasServed n (script_at scripts n) (get_or news k d).seat.mine) (sym its.number_is) its.served

-- one of the seats
some_seat : (seats : List SeatHeld) → 1 ≤ length seats → SeatHeld
some_seat [] few = absurd (omega (arith, few))
some_seat (seat ∷ seats) few = seat

-- every legal history with the logs of such seats is one of the queue that the first of them makes
module _ (heap : Heap) (scripts : List (List QueueCommand)) (seats : List SeatHeld) (numbered : map (λ seat. seat.number) seats ≡ range_with_len 0 heap.seats)
    (served : All (λ seat. HasServed seat.number (script_at scripts seat.number) seat.seat.mine) seats) (last history : List Entry) (legal : IsObjectLegal heap history)
    (same : map (λ seat. seat.seat.mine) seats ++ last ∷ [] ≡ logs_of heap history) where
  many : length seats ≡ heap.seats
  many = as_many seats heap.seats numbered

  -- the log of each seat
  at : (k : ℕ) → SeatHeld → k < heap.seats → HasServed k (script_at scripts k) (log_of k history)
  at k d below =
      let its = served k d (omega (arith, many, below)) in
      subst (λ (log : List Entry). HasServed k (script_at scripts k) log) (sym (log_there heap seats last history many same k d below))
      (subst (λ (n : ℕ). HasServed n (script_at scripts n) (get_or seats k d).seat.mine) (number_is_place seats heap.seats numbered k d below) its)

  -- the first seat's begins with the making of the queue
  pub first_makes : 1 ≤ heap.seats → MakesFirst (log_of 0 history)
  first_makes some =
      let first = at 0 (some_seat seats (omega (arith, many, some))) (omega (arith, some)) in
      subst MakesFirst (sym (first.log_is ∙ append_assoc first.opening first.serving first.leaving)) (makes_first_more first.opening (first.serving ++ first.leaving) (first.found.at_once refl))

  pub is_queue_history : 1 ≤ heap.seats → IsQueueHistory heap 0 history
  is_queue_history some =
      let d = some_seat seats (omega (arith, many, some)) in
      let first = at 0 d (omega (arith, some)) in
      record {
        legal = legal;
        logs = record {
          each = λ number. elim (cases_lt number heap.seats) as (λ _. IsQueueLog (start 0 number) (log_of number history)) [
            | inl below ↦ (at number d below).leads.due
            | inr past ↦ subst (IsQueueLog (start 0 number)) (sym (none_past heap history legal number past)) tt
          ];
          later = first.calls;
          made = first.leads.ended;
        };
      }
