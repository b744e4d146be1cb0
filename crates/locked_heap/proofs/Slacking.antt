-- What the slack of a run comes to.
use Rattle.std.proofs.Common.{◌≡◌, ℕ, ◌<◌, ◌≤◌, Option, subst, arith}
use Rattle.heap_model.specs.declared.calls.collector_calls.Turn.{Turn}
use Rattle.slack_pace.specs.Slack.{MakesEach, HasWaited, last_made}
use Rattle.locked_heap.specs.Locked.{LockedValue, MakesSlack}
use Rattle.heap_record.specs.Recorded.{Recorded, StandsStill, MakesTurn, collector_of}

pub makes_slack_as_asked : (asked told made : ℕ) (last : Option Turn) (ready : Recorded) (old new : LockedValue) → told ≡ asked → StandsStill old.recorded ready → made ≤ told → MakesEach MakesTurn made ready new.recorded
    → (made < told → HasWaited last) → last ≡ last_made made (collector_of new.recorded) → new.seats ≡ old.seats → new.over ≡ old.over → new.owed ≡ 0 → MakesSlack asked old new
makes_slack_as_asked asked told made last ready old new is still most turns fewer last_is seats over none = record {
  ready = ready;
  still = still;
  made = made;
  most = omega (arith, is, most);
  turns = turns;
  fewer = λ less. subst HasWaited last_is (fewer (omega (arith, is, less)));
  seats_stay = seats;
  over_stays = over;
  none_owed = none;
}
