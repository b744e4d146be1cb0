-- A turn of the holder is one of the collector.
use Rattle.std.proofs.Common.{◌≡◌, ℕ, ◌+◌, ◌*◌, Some, refl, sym, ap, subst}
use Rattle.heap_model.specs.calls.CollectorCalls.{ComesTo, Turns}
use Rattle.heap_model.specs.declared.calls.collector_calls.Turn.{Turn}
use Rattle.heap_model.specs.declared.calls.collector_calls.Turn.TheVariants.{Ended}
use Rattle.core_machine.specs.collector.Collector.{next_turn}
use Rattle.heap_table.specs.CollectorHeld.{IsTurned}
use Rattle.heap_table.specs.Known.{CollectorKnown}
use Rattle.heap_table.specs.Told.{ToldAtTurn}
use Rattle.collector_turns.specs.Collector.{CollectorValue, state_of}
use Rattle.collector_turns.specs.Turning.{TakesTurn}
use Rattle.collector_turns.proofs.Causes.{waits_exactly, ends_exactly}

module _ (old new : CollectorValue) (found : ℕ) (turn : Turn) (turned : IsTurned old.holder new.holder found) (answer : turn ≡ (next_turn old.holder.heap old.holder.known.collector).answer found)
    (told : ToldAtTurn old.holder.heap old.holder.known.collector found) where
  comes_to : ComesTo (state_of old) (state_of new) turn
  comes_to = subst (ComesTo (state_of old) (state_of new)) (sym answer)
      (told.comes_to (state_of old) (state_of new) (record { log_is = refl; phase_is = refl }) (record {
        log_is = ap (λ (k : CollectorKnown). k.collector.log) turned.known_is;
        phase_is = ap (λ (k : CollectorKnown). k.collector.phase) turned.known_is;
      }))

  pub turns_by : new.last_turn ≡ Some turn → Turns (state_of old) (state_of new) turn
  turns_by last = record { comes_to = comes_to; spare = turned.room_stays; no_more = λ some. turned.no_more; counted = turned.counted; last = last }

  last_phase : (cycle kept : ℕ) → turn ≡ Ended cycle kept → old.holder.known.collector.phase ≡ 7 * cycle + 6
  last_phase cycle kept ended = (subst (ComesTo (state_of old) (state_of new)) ended comes_to).1

  pub takes_turn : TakesTurn old new turn
  takes_turn = record {
    found = found;
    turned = turned;
    answer = answer;
    waits = waits_exactly old.holder found turn answer;
    ended = ends_exactly old.holder found turn answer last_phase;
  }

-- so it is with what contracts see of the collector before the turn
pub holder_takes_turn : (whole old new : CollectorValue) (found : ℕ) (turn : Turn) → whole ≡ old → IsTurned whole.holder new.holder found → turn ≡ (next_turn whole.holder.heap whole.holder.known.collector).answer found
    → ToldAtTurn whole.holder.heap whole.holder.known.collector found → new.last_turn ≡ Some turn → Turns (state_of old) (state_of new) turn × TakesTurn old new turn
holder_takes_turn whole old new found turn is turned answer told last =
    subst (λ (v : CollectorValue). Turns (state_of v) (state_of new) turn × TakesTurn v new turn) is
    (turns_by whole new found turn turned answer told last, takes_turn whole new found turn turned answer told)
