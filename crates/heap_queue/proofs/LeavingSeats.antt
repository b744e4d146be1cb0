-- A seat that leaves tells no more of the queue, takes nothing, and has gone.
use Rattle.std.proofs.Common.{◌≡◌, ℕ, ◌==◌, ◌≤◌, inl, Bool, true, false, cond, List, [], ◌∷◌, ◌++◌, length, refl, ap, ◌∙◌, subst, sym, append-nil, arith}
use Rattle.std.specs.Prelude.{All}
use Rattle.std.proofs.lemmas.Bool.{eq-eqb, or_left, or_right}
use Rattle.std.proofs.lemmas.List.Elements.{All-head, All-tail}
use Rattle.std.proofs.lemmas.List.Folds.{list_any-append}
use Rattle.std.proofs.lemmas.List.Sums.{sum_by-append}
use Rattle.atomic_table.specs.Seated.{TableId}
use Rattle.heap_model.specs.account.Effects.{effect_of, is_of}
use Rattle.heap_model.specs.account.PhaseCounts.{has_left, is_leave_of}
use Rattle.heap_model.specs.account.Space.{taken_of}
use Rattle.heap_model.specs.calls.SeatCalls.{last_gives, leave_entries}
use Rattle.heap_model.specs.declared.command.Command.TheVariants.{Leave}
use Rattle.heap_model.specs.declared.entry.Entry.{Entry}
use Rattle.heap_model.specs.declared.entry.Entry.TheVariants.{Said, GivesBack}
use Rattle.heap_model.specs.declared.heap.Heap.{Heap}
use Rattle.heap_model.specs.declared.reply.Reply.TheVariants.{Done}
use Rattle.heap_model.specs.graph.Growth.{graph_after}
use Rattle.heap_model.specs.graph.Objects.{graph_seat, opening}
use Rattle.heap_model.specs.runs.Told.{commands_told}
use Rattle.log_merge.proofs.SetCounts.{sets_grow_as_told}
use Rattle.core_machine.specs.calls.Kept.{Kept}
use Rattle.heap_table.specs.SeatHeld.{SeatHeld}
use Rattle.mutator_seat.specs.Calls.{MakesCall}
use Rattle.mutator_seat.specs.Resting.{seat_state, MakesRoom}
use Rattle.heap_runs.specs.CollectCall.{IsPresent}
use Rattle.heap_runs.specs.Finishing.{HasGone}
use Rattle.heap_runs.specs.SeatWork.{IsOfTable, sets_of}
use Rattle.heap_queue.specs.declared.queue_command.QueueCommand.{QueueCommand}
use Rattle.heap_queue.specs.Calls.{Call}
use Rattle.heap_queue.specs.Effects.{start}
use Rattle.heap_queue.specs.Histories.{Leads}
use Rattle.heap_queue.specs.Leaving.{Leaves}
use Rattle.heap_queue.specs.Places.{Rests, Gone}
use Rattle.heap_queue.specs.Served.{HasServed}
use Rattle.heap_queue.specs.Serving.{first_calls, GoesOnBy, HasCome, HasLeftFor}
use Rattle.heap_queue.specs.Working.{HasWorked}
use Rattle.heap_queue.proofs.ServingLogs.{leads_on}

-- the call of a leave, once there is room for it
leaves_by_call : (old new : SeatHeld) (spare : ℕ) → MakesCall (record old { spare = spare }) new Leave Done → Leaves old new
leaves_by_call old new spare call = record {
  table_stays = call.makes.table_stays;
  heap_stays = call.makes.heap_stays;
  number_stays = call.makes.number_stays;
  left = ap (λ (k : Kept). k.left) call.stands;
  unborn = _;
  mine = call.told ∙ ap (λ (first : List Entry). old.seat.mine ++ (first ++ Said old.number Leave Done ∷ [])) call.comes;
}

pub leaves : (old room new : SeatHeld) → MakesRoom old room → MakesCall room new Leave Done → Leaves old new
leaves old room new made call = leaves_by_call old new room.spare (subst (λ (h : SeatHeld). MakesCall h new Leave Done) made call)

-- what it tells then leads nowhere else, and takes nothing
leave_leads_by : (number unborn : ℕ) (none : Bool) → Leads Rests (cond none [] (GivesBack number unborn ∷ []) ++ Said number Leave Done ∷ []) Gone []
leave_leads_by number unborn true = record { due = (inl tt, tt); stands = refl; ended = refl }
leave_leads_by number unborn false = record { due = (inl tt, tt); stands = refl; ended = refl }

pub leave_leads : (number unborn : ℕ) → Leads Rests (leave_entries number unborn) Gone []
leave_leads number unborn = leave_leads_by number unborn (unborn == 0)

none_either : (own : Bool) → cond {A = ℕ} own 0 0 ≡ 0
none_either true = refl
none_either false = refl

leave_takes_by : (seat number unborn : ℕ) (none : Bool) → taken_of seat (cond none [] (GivesBack number unborn ∷ []) ++ Said number Leave Done ∷ []) ≡ 0
leave_takes_by seat number unborn true = omega (arith, none_either (number == seat))
leave_takes_by seat number unborn false = omega (arith, none_either (number == seat))

pub takes_no_more : (seat number unborn : ℕ) (log : List Entry) → taken_of seat log ≡ 0 → taken_of seat (log ++ leave_entries number unborn) ≡ 0
takes_no_more seat number unborn log none =
    omega (arith, sum_by-append (λ e. cond (is_of seat e) (effect_of e).taken 0) log (leave_entries number unborn), none, leave_takes_by seat number unborn (unborn == 0))

-- it answers a leave alone
leave_answers_by : (number unborn : ℕ) (none : Bool) → commands_told number (cond none [] (GivesBack number unborn ∷ []) ++ Said number Leave Done ∷ []) ≡ Leave ∷ []
leave_answers_by number unborn true = rw (eq-eqb number number refl) refl
leave_answers_by number unborn false = rw (eq-eqb number number refl) refl

-- so it does no set more
sets_stay : (old new : SeatHeld) → Leaves old new → sets_of new ≤ sets_of old
sets_stay old new left =
    let part = leave_entries old.number left.unborn in
    let more = sets_grow_as_told old.heap old.seat.mine part old.number (Leave ∷ []) (leave_answers_by old.number left.unborn (left.unborn == 0)) in
    let same : sets_of new ≡ (graph_seat (graph_after (opening old.heap) (old.seat.mine ++ part)) old.number).sets =
    ap (λ h. (graph_seat (graph_after (opening h) new.seat.mine) new.number).sets) left.heap_stays
    ∙ ap (λ (l : List Entry). (graph_seat (graph_after (opening old.heap) l) new.number).sets) left.mine
    ∙ ap (λ n. (graph_seat (graph_after (opening old.heap) (old.seat.mine ++ part)) n).sets) left.number_stays in
    omega (arith, same, more)

-- it has gone
pub has_gone : (table : TableId) (heap : Heap) (old new : SeatHeld) → IsOfTable table heap old → Leaves old new → HasGone table heap new
has_gone table heap old new was leaves =
    let number = old.number in
    let said : has_left number (Said number Leave Done ∷ []) ≡ true = or_left (number == number) false (eq-eqb number number refl) in
    let told : has_left number (leave_entries number leaves.unborn) ≡ true
    = list_any-append (is_leave_of number) (last_gives number leaves.unborn) (Said number Leave Done ∷ []) ∙ or_right _ _ said in
    record {
      table_is = leaves.table_stays ∙ was.table_is;
      heap_is = leaves.heap_stays ∙ was.heap_is;
      left = leaves.left;
      told = ap (λ (n : ℕ). has_left n new.seat.mine) leaves.number_stays ∙ ap (has_left number) leaves.mine
          ∙ list_any-append (is_leave_of number) old.seat.mine (leave_entries number leaves.unborn) ∙ or_right _ _ told;
    }

-- a seat that has served its script and then left
has_served : (number unborn : ℕ) (script : List QueueCommand) (log : List Entry) → HasCome number script log → HasServed number script (log ++ leave_entries number unborn)
has_served number unborn script log come =
    let leaving = leave_entries number unborn in
    record {
      opening = come.opening;
      found = come.found;
      calls = come.calls;
      serving = come.serving;
      served = come.served;
      leaving = leaving;
      unborn = unborn;
      leaves = refl;
      left = leave_leads number unborn;
      log_is = ap (λ (l : List Entry). l ++ leaving) come.log_is;
      leads = subst (λ (calls : List Call). Leads (start 0 number) (log ++ leaving) Gone calls) (append-nil (first_calls number ++ come.calls))
          (leads_on (start 0 number) Rests Gone log leaving (first_calls number ++ come.calls) [] come.leads (leave_leads number unborn));
    }

pub has_worked : (table : TableId) (heap : Heap) (number : ℕ) (script : List QueueCommand) (old served gone : SeatHeld) → IsOfTable table heap served → number ≡ old.number → HasLeftFor (length script) (seat_state old)
    → GoesOnBy (length script) (λ added. HasCome number script (old.seat.mine ++ added)) (seat_state old) (seat_state served) → Leaves served gone → HasWorked table heap old.number script gone
has_worked table heap number script old served gone of_table is may went left = record {
  number_is = left.number_stays ∙ went.number;
  served = subst (λ (n : ℕ). HasServed n script gone.seat.mine) is
      (subst (HasServed number script) (sym left.mine)
      (subst (λ (n : ℕ). HasServed number script (served.seat.mine ++ leave_entries n left.unborn)) (is ∙ sym went.number)
      (has_served number left.unborn script served.seat.mine (subst (HasCome number script) (sym went.told) went.tells))));
  gone = has_gone table heap served gone of_table left;
  few = omega (arith, may.stamps, went.sets, sets_stay served gone left);
}

-- the seat that comes next is there
pub next_is_present : (before behind : List SeatHeld) (seat : SeatHeld) → All IsPresent (before ++ seat ∷ behind) → IsPresent seat
next_is_present [] behind seat all = All-head IsPresent seat behind all
next_is_present (one ∷ before) behind seat all = next_is_present before behind seat (All-tail IsPresent one (before ++ seat ∷ behind) all)
