-- Of each command of a seat's script one is told, in their order.
use Rattle.std.proofs.Common.{◌≡◌, ℕ, ◌<◌, inl, inr, Bool, true, false, cond, eqb, List, [], ◌∷◌, ◌++◌, refl, sym, ap, ◌∙◌, subst, append-nil, append_assoc}
use Rattle.heap_model.specs.declared.entry.Entry.{Entry}
use Rattle.heap_model.specs.declared.heap.Heap.{Heap}
use Rattle.heap_model.specs.declared.id.Value.{Value}
use Rattle.heap_model.specs.declared.id.Value.TheVariants.{Number}
use Rattle.heap_model.specs.Logs.{log_of}
use Rattle.heap_model.specs.graph.Legal.{IsObjectLegal}
use Rattle.heap_queue.specs.declared.queue_command.QueueCommand.{QueueCommand}
use Rattle.heap_queue.specs.declared.queue_command.QueueCommand.TheVariants.{Put, Take}
use Rattle.heap_queue.specs.declared.told.Told.{Told}
use Rattle.heap_queue.specs.Calls.{Call, QueueMade, PutRefused, PutCall, TookInto, TakeCall}
use Rattle.heap_queue.specs.Effects.{start}
use Rattle.heap_queue.specs.Histories.{place_after}
use Rattle.heap_queue.specs.Places.{Place, Rests}
use Rattle.heap_queue.specs.Served.{HasServed}
use Rattle.heap_queue.specs.Serving.{put_register, IsCallOf, AnswersBy, IsPolled, ServesBy, ServesEach}
use Rattle.heap_queue.specs.Telling.{told_of}
use Rattle.heap_queue.specs.ToldBySeat.{told_by, opening_held, with_held, told_along, told_in, IsToldOf, TellEach}
use Rattle.heap_queue.proofs.SeatTelling.{told_by_own_log}
use Rattle.heap_queue.proofs.ServingLogs.{answered_rests, each_rests, served_rests}
use Rattle.heap_queue.proofs.ToldCalls.{IsToldAs, call_tells}
use Rattle.heap_queue.proofs.ToldLogs.{held_behind, told_then, IsBeside, AreMakings, log_tells_none}

-- one is told of the command, and nothing else
record TellsCommand (command : QueueCommand) (call : Call) (all : List Told) : Type 0 where
  pub told : Told
  pub only : all ≡ told ∷ []
  pub is : IsToldOf command call told

put_is_told : (n : ℕ) (call : Call) (told : Told) → IsCallOf (Put n) call → IsToldAs (Number n) call told → IsToldOf (Put n) call told
put_is_told n (PutRefused need found) told asked is = is
put_is_told n (PutCall v reply) told asked is = is asked
put_is_told n call told asked is = absurd asked

take_is_told : (value : Value) (call : Call) (told : Told) → IsCallOf Take call → IsToldAs value call told → IsToldOf Take call told
take_is_told value (TookInto d) told asked is = is
take_is_told value (TakeCall reply) told asked is = is
take_is_told value call told asked is = absurd asked

-- a put has the number that was set before it
answer_tells : (held : ℕ → Value) (number : ℕ) (command : QueueCommand) (call : Call) (log : List Entry) → AnswersBy number command call log → TellsCommand command call (told_along held Rests log)
answer_tells held number (Put n) call log answers =
    let one = call_tells (with_held held put_register (Number n)) answers.calling call answers.whole in record {
      told = one.told;
      only = ap (told_along held Rests) answers.log_is ∙ one.only;
      is = put_is_told n call one.told answers.asked one.is;
    }
answer_tells held number Take call log answers =
    let one = call_tells held answers.calling call answers.whole in record {
      told = one.told;
      only = ap (told_along held Rests) answers.log_is ∙ one.only;
      is = take_is_told (held put_register) call one.told answers.asked one.is;
    }

-- a poll tells nothing
poll_tells_none : (held : ℕ → Value) (number : ℕ) (log : List Entry) → IsPolled number log → told_along held Rests log ≡ []
poll_tells_none held number log (p, inl polled) = ap (told_along held Rests) polled
poll_tells_none held number log (p, inr polled) = ap (told_along held Rests) polled

-- what two logs tell of which the first leads to where the seat rests
tells_both : (held : ℕ → Value) (place : Place) (log one more : List Entry) → log ≡ one ++ more → place_after place one ≡ Rests → told_along held place log ≡ told_along held place one ++ told_along (held_behind held one) Rests more
tells_both held place log one more log_is rests =
    ap (told_along held place) log_is ∙ told_then held place one more ∙ ap (λ (p : Place). told_along held place one ++ told_along (held_behind held one) p more) rests

-- a command of a script
command_tells : (held : ℕ → Value) (number : ℕ) (command : QueueCommand) (call : Call) (log : List Entry) → ServesBy number command call log → TellsCommand command call (told_along held Rests log)
command_tells held number command call log serves =
    let one = answer_tells held number command call serves.answering serves.answered in
    let rests = (answered_rests number command call serves.answering serves.answered).stands in record {
      told = one.told;
      only = tells_both held Rests log serves.answering serves.polling serves.log_is rests
          ∙ ap (λ (all : List Told). all ++ told_along (held_behind held serves.answering) Rests serves.polling) one.only
          ∙ ap (λ (none : List Told). one.told ∷ none) (poll_tells_none (held_behind held serves.answering) number serves.polling serves.polled);
      is = one.is;
    }

-- so with each command of a script
each_tells : (held : ℕ → Value) (number : ℕ) (commands : List QueueCommand) (calls : List Call) (log : List Entry) → ServesEach number commands calls log → TellEach commands calls (told_along held Rests log)
each_tells held number [] [] log none = subst (λ (l : List Entry). TellEach [] [] (told_along held Rests l)) (sym none) tt
each_tells held number [] (call ∷ calls) log serves = absurd serves
each_tells held number (command ∷ commands) [] log serves = absurd serves
each_tells held number (command ∷ commands) (call ∷ calls) log (one, rest, log_is, first, more) =
    let tells = command_tells held number command call one first in
    let rests = (served_rests number command call one first).stands in
    let later : List Told = told_along (held_behind held one) Rests rest in
    subst (TellEach (command ∷ commands) (call ∷ calls)) (sym (tells_both held Rests log one rest log_is rests ∙ ap (λ (all : List Told). all ++ later) tells.only))
    (tells.is, each_tells (held_behind held one) number commands calls rest more)

-- nothing is told of the opening, nor of the leaving
first_are_makings : (first : Bool) → AreMakings (cond first (QueueMade ∷ []) [])
first_are_makings true = (tt, tt)
first_are_makings false = tt

served_tells : (number : ℕ) (script : List QueueCommand) (log : List Entry) → (served : HasServed number script log) → TellEach script served.calls (told_in number log)
served_tells number script log served =
    let found = served.found.leads in
    let left = served.left in
    let opened : ℕ → Value = held_behind opening_held served.opening in
    let behind : ℕ → Value = held_behind opened served.serving in
    let first_none : told_along opening_held (start 0 number) served.opening ≡ [] =
    log_tells_none opening_held (start 0 number) served.opening found.due (subst IsBeside (sym found.stands) tt) (subst AreMakings (sym found.ended) (first_are_makings (eqb number 0))) in
    let last_none : told_along behind Rests served.leaving ≡ [] = log_tells_none behind Rests served.leaving left.due (subst IsBeside (sym left.stands) tt) (subst AreMakings (sym left.ended) tt) in
    let all : told_in number log ≡ told_along opened Rests served.serving =
    tells_both opening_held (start 0 number) log served.opening (served.serving ++ served.leaving) (served.log_is ∙ append_assoc served.opening served.serving served.leaving) found.stands
    ∙ ap (λ (none : List Told). none ++ told_along opened Rests (served.serving ++ served.leaving)) first_none
    ∙ tells_both opened Rests (served.serving ++ served.leaving) served.serving served.leaving refl (each_rests number script served.calls served.serving served.served).stands
    ∙ ap (λ (none : List Told). told_along opened Rests served.serving ++ none) last_none
    ∙ append-nil (told_along opened Rests served.serving) in
    subst (TellEach script served.calls) (sym all) (each_tells opened number script served.calls served.serving served.served)

-- a history tells of each seat what its own log tells, and that is one of each command of its script
pub each_seat_is_told : (heap : Heap) (history : List Entry) (number : ℕ) (script : List QueueCommand) → IsObjectLegal heap history → number < heap.seats → (served : HasServed number script (log_of number history))
    → (told_by number (told_of heap 0 history) ≡ told_in number (log_of number history)) × TellEach script served.calls (told_in number (log_of number history))
each_seat_is_told heap history number script legal there served = (told_by_own_log heap history number legal there, served_tells number script (log_of number history) served)
