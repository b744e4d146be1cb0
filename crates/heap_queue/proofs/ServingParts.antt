-- The parts of a seat's work behind one another: it finds the queue, serves its script and leaves.
use Rattle.std.proofs.Common.{◌≡◌, ◌≢◌, ℕ, ◌+◌, ◌*◌, ◌<◌, ◌≤◌, inl, inr, Bool, cond, List, [], ◌∷◌, ◌++◌, length, take, Result, Ok, Err, refl, sym, ap, ◌∙◌, subst, append_assoc, append-nil, arith}
use Rattle.std.specs.Prelude.{slice_index_or, OnOk}
use Rattle.std.proofs.lemmas.Bool.Decides.{eqb_tells}
use Rattle.std.proofs.lemmas.List.{take_more}
use Rattle.heap_model.specs.declared.command.Command.TheVariants.{Get, Num, Poll}
use Rattle.heap_model.specs.declared.entry.Entry.{Entry}
use Rattle.heap_model.specs.declared.entry.Entry.TheVariants.{Said}
use Rattle.heap_model.specs.declared.refusal.PlaceRefusal.{PlaceRefusal}
use Rattle.heap_model.specs.declared.refusal.PlaceRefusal.TheVariants as refusals
use Rattle.heap_model.specs.declared.reply.Reply.{Reply}
use Rattle.heap_model.specs.declared.reply.Reply.TheVariants.{Done, Phase}
use Rattle.heap_model.specs.calls.SeatCalls.{Adds}
use Rattle.heap_model.specs.calls.SeatReplies.{refusal_reply}
use Rattle.heap_model.specs.calls.SeatState.{SeatState, own_graph_seat}
use Rattle.heap_queue.specs.declared.queue_command.QueueCommand.{QueueCommand}
use Rattle.heap_queue.specs.declared.queue_command.QueueCommand.TheVariants.{Put, Take}
use Rattle.heap_queue.specs.declared.replies.PutReply.{PutReply}
use Rattle.heap_queue.specs.declared.replies.PutReply.TheVariants as puts
use Rattle.heap_queue.specs.declared.replies.TakeReply.{TakeReply}
use Rattle.heap_queue.specs.declared.replies.TakeReply.TheVariants as takes
use Rattle.heap_queue.specs.Calls.{Call, IsWhole, put_call, take_call}
use Rattle.heap_queue.specs.Effects.{start}
use Rattle.heap_queue.specs.Grows.{HasLeft, Completes, Spends}
use Rattle.heap_queue.specs.Histories.{Leads}
use Rattle.heap_queue.specs.Places.{Place, Waits, Rests, after}
use Rattle.heap_queue.specs.Serving.{put_register, take_register, IsCallOf, sets_number, AnswersBy, IsPolled, ServesBy, ServesScript, first_calls, begin_place, HasBegun, HasFound, HasLooked, HasCome, HasLeftFor, GoesOnBy, looked_place}
use Rattle.heap_queue.proofs.HeapCalls.{spends_most}
use Rattle.heap_queue.proofs.ServingLogs.{leads_on, polled_waits, each_more, has_come}
use Rattle.heap_queue.proofs.ServingSteps.{goes_nowhere, goes_with_room, goes_both, goes_weaker, goes_by, goes_by_poll, goes_whole}

-- what is left where room was made
pub left_with_room : {puts room : ℕ} {old new : SeatState} → new ≡ record old { spare = new.spare } → HasLeftFor puts old → room ≤ new.spare → HasLeft puts (3 * puts) room new
left_with_room {puts} {room} {old} {new} same has more = record {
  present = ap (λ (s : SeatState). (own_graph_seat s).left) same ∙ has.present;
  names_left = let n = ap (λ (s : SeatState). length (own_graph_seat s).objects) same in let x = has.names in omega (arith, n, x);
  sets_left = let n = ap (λ (s : SeatState). (own_graph_seat s).sets) same in let x = has.stamps in omega (arith, n, x);
  room_left = more;
}

-- what a seat does once it has made room
goes_from_room : {puts : ℕ} {P : List Entry → Type 0} {old now new : SeatState} → now ≡ record old { spare = now.spare } → GoesOnBy puts P now new → GoesOnBy puts P old new
goes_from_room {puts} {P} {old} room one =
    goes_both puts P (omega arith) (λ log later a b. subst (λ (l : List Entry). P (l ++ later)) (sym a) b) (goes_with_room (goes_nowhere (λ (l : List Entry). l ≡ []) old refl) room) one

-- it makes room, polls, and reads field 1 of the board
pub looks : {old now polled new : SeatState} {p : ℕ} {shown : Reply} (place : Place) (reply : Reply) → now ≡ record old { spare = now.spare } → Adds now polled Poll (Phase p) → Adds polled new (Get 14 0 1) shown → shown ≡ reply
    → after Waits (Get 14 0 1) reply ≡ place → GoesOnBy 0 (HasLooked place) old new
looks {old} {now} {polled} {new} {p} {shown} place reply room poll get same leads =
    let told : List Entry = Said polled.number (Get 14 0 1) shown ∷ [] in
    let read : HasLooked place told = record { due = (refl, tt); stands = ap (after Waits (Get 14 0 1)) same ∙ leads; ended = refl } in
    goes_both 0 (HasLooked place) (omega arith) (λ log later a b. leads_on Waits Waits place log later [] [] (polled_waits now.number log a) b)
    (goes_from_room room (goes_by_poll p poll))
    (goes_by 0 (HasLooked place) (Get 14 0 1) get (λ e. cc) (omega arith) (omega arith) (subst (λ (l : List Entry). HasLooked place (l ++ told)) (sym get.comes) read))

-- where there is no object or no field, it waits
pub waits_after : (refusal : PlaceRefusal) → after Waits (Get 14 0 1) (refusal_reply refusal) ≡ Waits
waits_after refusals.NoObject = refl
waits_after refusals.NoField = refl

-- a look more
pub looks_more : {old now new : SeatState} (found is : Bool) → found ≡ is → GoesOnBy 0 (HasLooked Waits) old now → GoesOnBy 0 (HasLooked (looked_place found)) now new → GoesOnBy 0 (HasLooked (looked_place is)) old new
looks_more {old} {now} {new} found is same one more =
    goes_both 0 (HasLooked (looked_place is)) (omega arith) (λ log later a b. leads_on Waits Waits (looked_place is) log later [] [] a b) one
    (subst (λ (b : Bool). GoesOnBy 0 (HasLooked (looked_place b)) now new) same more)

-- a seat that isn't the first waits for the queue
begins_waiting : (number : ℕ) → number ≢ 0 → begin_place number ≡ Waits
begins_waiting number other = elim (eqb_tells number 0) as (λ _. begin_place number ≡ Waits) [
  | inl same ↦ absurd (other same.1)
  | inr apart ↦ ap (λ (b : Bool). cond b Rests Waits) apart.0
]

found_behind : (number : ℕ) (log more : List Entry) → number ≢ 0 → HasBegun number log → HasLooked Rests more → HasFound number (log ++ more)
found_behind number log more other begun looked = record {
  leads = subst (λ (x : List Call). Leads (start 0 number) (log ++ more) Rests x) (append-nil (first_calls number))
      (leads_on (start 0 number) Waits Rests log more (first_calls number) [] (subst (λ (p : Place). Leads (start 0 number) log p (first_calls number)) (begins_waiting number other) begun.leads) looked);
  at_once = λ first. absurd (other first);
}

-- by what it finds it has found the queue
pub finds : {E : Type 0} (old new : SeatState) (number : ℕ) (result : Result (Unit {0}) E) → number ≢ 0 → HasBegun number old.mine → OnOk result (GoesOnBy 0 (HasLooked Rests) old new)
    → OnOk result (GoesOnBy 0 (λ added. HasFound number (old.mine ++ added)) old new)
finds {E} old new number (Ok value) other begun went = goes_weaker (λ added. HasFound number (old.mine ++ added)) (λ more looked. found_behind number old.mine more other begun looked) went
finds {E} old new number (Err error) other begun went = tt

-- a register is set to the number, which is then put
pub answers_put : {old now new : SeatState} (n : ℕ) (reply : PutReply) → Adds old now (Num put_register n) Done → Completes Rests now new (put_call put_register reply) → Spends 1 3 14 now new
    → GoesOnBy 1 (AnswersBy old.number (Put n) (put_call put_register reply)) old new
answers_put {old} {now} {new} n reply set called spent =
    let call = put_call put_register reply in
    goes_both 1 (AnswersBy old.number (Put n) call) (omega arith) (λ one more a b. record { asked = is_put n reply; calling = more; whole = b; log_is = ap (λ (l : List Entry). l ++ more) a })
    (goes_by 0 (λ (l : List Entry). l ≡ sets_number old.number (Put n)) (Num put_register n) set (λ e. cc) (omega arith) (omega arith) (ap (λ (l : List Entry). l ++ sets_number old.number (Put n)) set.comes))
    (goes_whole (λ (l : List Entry). IsWhole Rests l call) called.added called.told spent called.whole)
  where
    is_put : (n : ℕ) (reply : PutReply) → IsCallOf (Put n) (put_call put_register reply)
    is_put n (puts.Full need found) = tt
    is_put n reply = refl

pub answers_take : {old new : SeatState} (reply : TakeReply) → Completes Rests old new (take_call take_register reply) → Spends 0 1 14 old new → GoesOnBy 1 (AnswersBy old.number Take (take_call take_register reply)) old new
answers_take {old} {new} reply called spent =
    goes_whole (AnswersBy old.number Take (take_call take_register reply)) called.added called.told (spends_most 1 3 14 spent (omega arith) (omega arith) (omega arith))
    (record { asked = is_take reply; calling = called.added; whole = called.whole; log_is = refl })
  where
    is_take : (reply : TakeReply) → IsCallOf Take (take_call take_register reply)
    is_take takes.Took = refl
    is_take reply = tt

-- once there is room the command is answered, and then a poll
pub serves : {old now answered new : SeatState} {p : ℕ} (command : QueueCommand) (call : Call) → now ≡ record old { spare = now.spare } → GoesOnBy 1 (AnswersBy now.number command call) now answered → Adds answered new Poll (Phase p)
    → GoesOnBy 1 (ServesBy old.number command call) old new
serves {old} {now} {answered} {new} {p} command call room one poll =
    let number : now.number ≡ old.number = ap (λ (s : SeatState). s.number) room in
    goes_both 1 (ServesBy old.number command call) (omega arith)
    (λ log later a b. record { answering = log; answered = subst (λ (m : ℕ). AnswersBy m command call log) number a; polling = later; polled = subst (λ (m : ℕ). IsPolled m later) (one.number ∙ number) b; log_is = refl })
    (goes_from_room room one) (goes_by_poll p poll)

-- one command more
pub serves_more : {old now new : SeatState} (script : List QueueCommand) (n : ℕ) (command other : QueueCommand) → n < length script → command ≡ slice_index_or script n other → GoesOnBy n (ServesScript old.number (take n script)) old now
    → ((call : Call) × GoesOnBy 1 (ServesBy now.number command call) now new) → GoesOnBy (n + 1) (ServesScript old.number (take (n + 1) script)) old new
serves_more {old} {now} {new} script n command other within is one (call, more) =
    let further : take (n + 1) script ≡ take n script ++ command ∷ [] = take_more script n other within ∙ ap (λ (c : QueueCommand). take n script ++ c ∷ []) (sym is) in
    subst (λ (s : List QueueCommand). GoesOnBy (n + 1) (ServesScript old.number s) old new) (sym further)
    (goes_both (n + 1) (ServesScript old.number (take n script ++ command ∷ [])) (omega arith)
    (λ log later served serves. (served.0 ++ call ∷ [], each_more old.number (take n script) command served.0 call log later served.1 serves)) one
    (subst (λ (m : ℕ). GoesOnBy 1 (ServesBy m command call) now new) one.number more))

-- a seat that has found the queue and then serves its script
pub comes : {old found served : SeatState} (number : ℕ) (script : List QueueCommand) → old.number ≡ number → GoesOnBy 0 (λ added. HasFound number (old.mine ++ added)) old found → GoesOnBy (length script) (ServesScript found.number script) found served
    → GoesOnBy (length script) (λ added. HasCome number script (old.mine ++ added)) old served
comes {old} {found} {served} number script is one more =
    goes_both (length script) (λ added. HasCome number script (old.mine ++ added)) (omega arith)
    (λ opening serving opens serves. subst (HasCome number script) (append_assoc old.mine opening serving)
    (has_come number script (old.mine ++ opening) serving opens (subst (λ (m : ℕ). ServesScript m script serving) (one.number ∙ is) serves))) one more

-- where it does so
pub comes_ok : {E : Type 0} (old found served : SeatState) (number : ℕ) (script : List QueueCommand) (result : Result (Unit {0}) E) → old.number ≡ number → GoesOnBy 0 (λ added. HasFound number (old.mine ++ added)) old found
    → OnOk result (GoesOnBy (length script) (ServesScript found.number script) found served) → OnOk result (GoesOnBy (length script) (λ added. HasCome number script (old.mine ++ added)) old served)
comes_ok old found served number script (Ok value) is one more = comes number script is one more
comes_ok old found served number script (Err error) is one more = tt
