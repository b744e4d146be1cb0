-- Many turns in one go: how one more goes behind them.
use Rattle.std.proofs.Common.{◌≡◌, ◌≢◌, ℕ, zero, suc, ◌+◌, ◌<◌, ◌≤◌, length, Option, Some, None, refl, sym, subst, arith}
use Rattle.std.proofs.Math.Numerals.{add-one}
use Rattle.std.proofs.Math.Nat.{le_antisymm, lt_irrefl}
use Rattle.heap_model.specs.declared.calls.collector_calls.Turn.{Turn}
use Rattle.heap_model.specs.declared.calls.collector_calls.Turn.TheVariants as turns
use Rattle.heap_model.specs.declared.calls.collector_calls.TurnsMade.{TurnsMade}
use Rattle.heap_model.specs.calls.CollectorCalls.{CollectorState, Turns}
use Rattle.heap_model.specs.calls.ManyTurns.{GoesOnward, MakesOnward, MakesUpTo, HasWaited, TakesTurns}
use Rattle.heap_model.proofs.call_lemmas.TurnLogs.{few_added}

-- a turn that doesn't wait goes onward
pub unless_it_waits : (turn : Turn) → ((seat answered phase : ℕ) → turn ≢ turns.Waits seat answered phase) → GoesOnward turn
unless_it_waits turns.Stepped other = tt
unless_it_waits (turns.Waits seat answered phase) other = other seat answered phase refl
unless_it_waits (turns.Ended cycle kept) other = tt

-- a turn that is known to wait has waited
pub has_waited : (turn : Turn) (seat answered phase : ℕ) → turn ≡ turns.Waits seat answered phase → HasWaited (Some turn)
has_waited turn seat answered phase is = rw is tt

-- so many turns were made, none of which waited, and this is what the last came to
pub record MakesSo {Whole : Type 0} (Does : Whole → Whole → Turn → Type 0) (n : ℕ) (old new : Whole) (last : Option Turn) : Type 0 where
  pub onward : MakesOnward Does n old new
  pub each : MakesUpTo Does n old new last

module _ {Whole : Type 0} (Does : Whole → Whole → Turn → Type 0) where
  -- none were made yet
  pub none_made : (old : Whole) → MakesSo Does 0 old old None
  none_made old = record { onward = refl; each = (refl, refl) }

  -- one more was made
  pub one_more_each : (n : ℕ) (old now new : Whole) (turn : Turn) → MakesOnward Does n old now → Does now new turn → MakesUpTo Does (n + 1) old new (Some turn)
  one_more_each n old now new turn made does = rw (add-one n) (now, turn, made, does, refl)

  -- one more was made, which didn't wait
  pub one_more_so : (n : ℕ) (old now new : Whole) (turn : Turn) → MakesOnward Does n old now → Does now new turn → GoesOnward turn → MakesSo Does (n + 1) old new (Some turn)
  one_more_so n old now new turn made does onward = record { onward = rw (add-one n) (now, turn, made, does, onward); each = one_more_each n old now new turn made does }

  -- the last that was made waited
  pub taken_up_to_wait : (n made : ℕ) (old now new : Whole) (turn : Turn) → made < n → MakesOnward Does made old now → Does now new turn → HasWaited (Some turn)
      → TakesTurns Does n old new (record { made = made + 1; last = Some turn })
  taken_up_to_wait n made old now new turn within onward does waited = record { most = omega (arith, within); fewer = λ less. waited; each = one_more_each made old now new turn onward does }

  -- all were made
  pub all_taken : {n made : ℕ} (old new : Whole) (last : Option Turn) → made ≤ n → n ≤ made → MakesSo Does made old new last → TakesTurns Does n old new (record { made = n; last = last })
  all_taken {n} {made} old new last most least so = record {
    most = omega (arith);
    fewer = λ less. absurd (lt_irrefl _ less);
    each = subst (λ m. MakesUpTo Does m old new last) (le_antisymm most least) so.each;
  }

-- what turns add to the log, and what room they leave
pub record Grows (n : ℕ) (old new : CollectorState) : Type 0 where
  pub logged : length new.log ≤ length old.log + n
  pub spare : old.spare + length old.log ≤ new.spare + length new.log

-- no turns leave all as it was
pub none_grows : (old : CollectorState) → Grows 0 old old
none_grows old = record { logged = omega (arith); spare = omega (arith) }

-- one turn more adds an entry at most
pub one_more_grows : (n : ℕ) (old now new : CollectorState) (turn : Turn) → Grows n old now → Turns now new turn → Grows (n + 1) old new
one_more_grows n old now new turn grown one = record {
  logged = omega (arith, grown.logged, few_added now new turn one.comes_to);
  spare = omega (arith, grown.spare, one.spare);
}
