-- Many turns of the holder in one go are as many of the collector.
use Rattle.std.proofs.Common.{◌≡◌, ℕ, zero, suc, Option, Some, None, refl, sym, ap, subst, ◌∙◌}
use Rattle.heap_model.specs.calls.CollectorCalls.{CollectorState, Turns}
use Rattle.heap_model.specs.calls.ManyTurns.{MakesOnward, MakesUpTo, TakesTurns}
use Rattle.heap_model.specs.declared.calls.collector_calls.Turn.{Turn}
use Rattle.heap_model.specs.declared.calls.collector_calls.TurnsMade.{TurnsMade}
use Rattle.heap_table.specs.CollectorHeld.{CollectorHeld}
use Rattle.heap_table.specs.ManyTurns.{MakesTurn}
use Rattle.collector_turns.specs.Collector.{CollectorValue, state_of}
use Rattle.collector_turns.specs.Turning.{TakesTurn}
use Rattle.collector_turns.proofs.Turned.{holder_takes_turn}

-- the collector with this holder, after so many turns of which none waited
record Onward (n : ℕ) (old : CollectorValue) (holder : CollectorHeld) : Type 0 where
  pub now : CollectorValue
  pub holder_is : now.holder ≡ holder
  pub turned : MakesOnward TakesTurn n old now
  pub turns : MakesOnward Turns n (state_of old) (state_of now)

module _ (old : CollectorValue) where
  -- one more turn of the holder behind these is one more of the collector
  turn_on : (n : ℕ) (held : CollectorHeld) (on : Onward n old held) (new : CollectorValue) (turn : Turn) → MakesTurn held new.holder turn → new.last_turn ≡ Some turn
      → Turns (state_of on.now) (state_of new) turn × TakesTurn on.now new turn
  turn_on n held on new turn makes last =
      holder_takes_turn (record { holder = held; last_turn = on.now.last_turn }) on.now new makes.found turn (ap (λ (h : CollectorHeld). record { holder = h; last_turn = on.now.last_turn }) (sym on.holder_is)) makes.turned makes.answer
      makes.told last

  onward : (n : ℕ) (holder : CollectorHeld) → MakesOnward MakesTurn n old.holder holder → Onward n old holder
  onward zero holder made = record { now = old; holder_is = sym made; turned = refl; turns = refl }
  onward (suc n) holder made =
      let on = onward n made.0 made.2 in
      let new : CollectorValue = record { holder = holder; last_turn = Some made.1 } in
      let one = turn_on n made.0 on new made.1 made.3 refl in
      record { now = new; holder_is = refl; turned = (on.now, made.1, on.turned, one.1, made.4); turns = (state_of on.now, made.1, on.turns, one.0, made.4) }

  -- up to the last, which the collector answers
  up_to : (n : ℕ) (new : CollectorValue) (last : Option Turn) → MakesUpTo MakesTurn n old.holder new.holder last → (last ≡ None → new.last_turn ≡ old.last_turn) → ((turn : Turn) → last ≡ Some turn → new.last_turn ≡ Some turn)
      → MakesUpTo TakesTurn n old new last × MakesUpTo Turns n (state_of old) (state_of new) last
  up_to zero new last made none some =
      let same : new ≡ old = ap (λ (h : CollectorHeld). record { holder = h; last_turn = new.last_turn }) made.0 ∙ ap (λ (t : Option Turn). record { holder = old.holder; last_turn = t }) (none made.1) in
      ((same, made.1), (ap state_of same, made.1))
  up_to (suc n) new last made none some =
      let on = onward n made.0 made.2 in
      let one = turn_on n made.0 on new made.1 made.3 (some made.1 made.4) in
      ((on.now, made.1, on.turned, one.1, made.4), (state_of on.now, made.1, on.turns, one.0, made.4))

  pub takes_turns : (n : ℕ) (new : CollectorValue) (done : TurnsMade) → TakesTurns MakesTurn n old.holder new.holder done → (done.last ≡ None → new.last_turn ≡ old.last_turn) → ((turn : Turn) → done.last ≡ Some turn → new.last_turn ≡ Some turn)
      → TakesTurns Turns n (state_of old) (state_of new) done × TakesTurns TakesTurn n old new done
  takes_turns n new done takes none some =
      let each = up_to done.made new done.last takes.each none some in
      (record { most = takes.most; fewer = takes.fewer; each = each.1 }, record { most = takes.most; fewer = takes.fewer; each = each.0 })

-- so it is with what contracts see of the collector before them
pub holder_takes_turns : (whole old new : CollectorValue) (n : ℕ) (done : TurnsMade) → whole ≡ old → TakesTurns MakesTurn n whole.holder new.holder done → (done.last ≡ None → new.last_turn ≡ whole.last_turn) → ((turn : Turn) → done.last ≡ Some turn → new.last_turn ≡ Some turn)
    → TakesTurns Turns n (state_of old) (state_of new) done × TakesTurns TakesTurn n old new done
holder_takes_turns whole old new n done is takes none some =
    subst (λ (v : CollectorValue). TakesTurns Turns n (state_of v) (state_of new) done × TakesTurns TakesTurn n v new done) is (takes_turns whole n new done takes none some)
