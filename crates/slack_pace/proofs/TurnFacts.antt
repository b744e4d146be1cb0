-- What some turns of a collector leave behind.
use Rattle.std.proofs.Common.{◌≡◌, ℕ, zero, suc, ◌+◌, ◌<◌, ◌≤◌, length, Option, Some, None, refl, sym, ◌∙◌, arith}
use Rattle.std.proofs.Math.Numerals.{add-one}
use Rattle.heap_model.specs.declared.calls.collector_calls.Turn.{Turn}
use Rattle.heap_model.specs.calls.CollectorCalls.{CollectorState, Turns}
use Rattle.heap_model.specs.calls.ManyTurns.{MakesOnward, MakesUpTo}
use Rattle.heap_model.proofs.call_lemmas.TurnLogs.{few_added}
use Rattle.slack_pace.specs.Slack.{MakesEach, CountsTurns, last_made}

-- what so many turns add
pub record Adds (n : ℕ) (old new : CollectorState) : Type 0 where
  pub counted : CountsTurns n old new
  pub logged : length new.log ≤ length old.log + n
  pub spare : old.spare + length old.log ≤ new.spare + length new.log
  pub no_more : new.spare ≤ old.spare

-- no turns add nothing
none_adds : (old new : CollectorState) → new ≡ old → Adds 0 old new
none_adds old new same = rw same (record { counted = omega (arith); logged = omega (arith); spare = omega (arith); no_more = omega (arith) })

-- one turn more, for which there is room, adds an entry at most
one_more_adds : (n : ℕ) (old now new : CollectorState) (turn : Turn) → Adds n old now → Turns now new turn → n + 1 < old.spare → Adds (n + 1) old new
one_more_adds n old now new turn adds one room = record {
  counted = omega (arith, adds.counted, one.counted);
  logged = omega (arith, adds.logged, few_added now new turn one.comes_to);
  spare = omega (arith, adds.spare, one.spare);
  no_more = omega (arith, adds.no_more, one.no_more (omega (arith, room, adds.spare, adds.logged)));
}

-- turns of which none waited, for which there is room
onward_adds : (n : ℕ) (old new : CollectorState) → MakesOnward Turns n old new → n < old.spare → Adds n old new
onward_adds zero old new made room = none_adds old new made
onward_adds (suc n) old new made room =
    rw (← add-one n) (one_more_adds n old made.0 new made.1 (onward_adds n old made.0 made.2 (omega (arith, room))) made.3 (omega (arith, room)))

-- turns of which none but the last waited, likewise
pub up_to_adds : (n : ℕ) (old new : CollectorState) (last : Option Turn) → MakesUpTo Turns n old new last → n < old.spare → Adds n old new
up_to_adds zero old new last made room = none_adds old new made.0
up_to_adds (suc n) old new last made room =
    rw (← add-one n) (one_more_adds n old made.0 new made.1 (onward_adds n old made.0 made.2 (omega (arith, room))) made.3 (omega (arith, room)))

-- they are each made
pub up_to_is_each : {Whole : Type 0} (Does : Whole → Whole → Turn → Type 0) (n : ℕ) (old new : Whole) (last : Option Turn) → MakesUpTo Does n old new last → MakesEach Does n old new
up_to_is_each Does zero old new last made = made.0
up_to_is_each Does (suc n) old new last made = (made.0, made.1, made.2, made.3)

-- and what the last of them came to is what the collector answered last
pub up_to_tells_last : (n : ℕ) (old new : CollectorState) (last : Option Turn) → MakesUpTo Turns n old new last → last ≡ last_made n new
up_to_tells_last zero old new last made = made.1
up_to_tells_last (suc n) old new last made = made.4 ∙ sym made.3.last
