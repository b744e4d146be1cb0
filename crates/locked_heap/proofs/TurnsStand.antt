-- What stands under the lock after turns.
use Rattle.std.proofs.Common.{ℕ, zero, suc, List, ◌++◌, refl, sym, ap, subst, ◌∙◌}
use Rattle.heap_model.specs.declared.calls.collector_calls.Turn.{Turn}
use Rattle.heap_model.specs.declared.entry.Entry.{Entry}
use Rattle.core_machine.specs.machine.Machine.{State}
use Rattle.slack_pace.specs.Slack.{MakesOnward, MakesEach}
use Rattle.locked_heap.specs.Given.{Given}
use Rattle.locked_heap.specs.Locked.{LockedValue, AllHaveCome, SomeAreThere, StandsLocked}
use Rattle.heap_record.specs.Recorded.{Recorded, StandsStill, MakesTurn}
use Rattle.locked_heap.proofs.Coming.{all_have_come_after_turn}
use Rattle.locked_heap.proofs.GivenRuns.{is_run_still}
use Rattle.locked_heap.proofs.TurnsOn.{TurnsOn, turns_on_without_turn, turns_on_with_turn}
use Rattle.locked_heap.proofs.Parting.{is_parted_while_there}
use Rattle.locked_heap.proofs.TellsNone.{tells_none_of_collectors}

stands_same : (recorded : Recorded) → StandsStill recorded recorded
stands_same recorded = record { heap_stays = refl; state_stays = refl; history_stays = refl; listed_stays = refl; turns_stay = refl; last_stays = refl }

-- nothing but turns was made where turns were, one after another
onward_on : (n : ℕ) (old new : Recorded) → MakesOnward MakesTurn n old new → TurnsOn old new
onward_on zero old new same = subst (TurnsOn old) (sym same) (turns_on_without_turn old)
onward_on (suc n) old new makes = turns_on_with_turn old makes.0 makes.0 new makes.1 (onward_on n old makes.0 makes.2) (stands_same makes.0) makes.3

each_on : (n : ℕ) (old new : Recorded) → MakesEach MakesTurn n old new → TurnsOn old new
each_on zero old new same = subst (TurnsOn old) (sym same) (turns_on_without_turn old)
each_on (suc n) old new makes = turns_on_with_turn old makes.0 makes.0 new makes.1 (onward_on n old makes.0 makes.2) (stands_same makes.0) makes.3

-- nor where one was, once there was room
pub turns_on_after_turn : (old ready new : Recorded) (turn : Turn) → StandsStill old ready → MakesTurn ready new turn → TurnsOn old new
turns_on_after_turn old ready new turn still makes = turns_on_with_turn old old ready new turn (turns_on_without_turn old) still makes

-- and many
pub turns_on_after_slack : (n : ℕ) (old ready new : Recorded) → StandsStill old ready → MakesEach MakesTurn n ready new → TurnsOn old new
turns_on_after_slack n old ready new still makes =
    let on = each_on n ready new makes in
    record {
      turned = on.turned;
      grown = on.grown ∙ ap (λ (l : List Entry). l ++ on.turned) still.history_stays;
      own = on.own;
      seats_stay = on.seats_stay ∙ ap (λ (s : State). s.seats) still.state_stays;
      runs = λ given run. on.runs given (is_run_still given old ready run still);
    }

-- while some seat is there all stands
pub stands_locked_after_turns : (given : Given) (locked : LockedValue) (new : Recorded) (owed patience : ℕ) → StandsLocked given locked patience → TurnsOn locked.recorded new → SomeAreThere given locked.seats
    → StandsLocked given (record locked { recorded = new; owed = owed }) patience
stands_locked_after_turns given locked new owed patience stands on some = record {
  run = on.runs given stands.run;
  come = subst (λ (l : List Entry). AllHaveCome given l new.machine.state locked.seats) (sym on.grown)
      (all_have_come_after_turn given locked.recorded.history on.turned locked.recorded.machine.state new.machine.state locked.seats stands.come on.seats_stay (λ other. tells_none_of_collectors other on.turned on.own));
  parted = is_parted_while_there given new.history locked.seats some;
  patient = stands.patient;
}
