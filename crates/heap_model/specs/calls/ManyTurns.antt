-- What many turns of a collector come to that are made in one go.
use Rattle.std.specs.Prelude.{◌≡◌, ℕ, zero, suc, ◌<◌, ◌≤◌, Option, Some, None}
use Rattle.heap_model.specs.declared.calls.collector_calls.Turn.{Turn}
use Rattle.heap_model.specs.declared.calls.collector_calls.Turn.TheVariants.{Waits}
use Rattle.heap_model.specs.declared.calls.collector_calls.TurnsMade.{TurnsMade}

-- the turn doesn't wait
abbrev pub GoesOnward : Turn → Type 0
GoesOnward (Waits seat answered phase) = ⊥
GoesOnward _ = Unit {0}

-- so many turns were made, one after another, each of which did this, and none of them waited
abbrev pub MakesOnward : {Whole : Type 0} → (Whole → Whole → Turn → Type 0) → ℕ → Whole → Whole → Type 0
MakesOnward Does zero old new = new ≡ old
MakesOnward {Whole} Does (suc n) old new = (now : Whole) × (turn : Turn) × MakesOnward Does n old now × Does now new turn × GoesOnward turn

-- so many turns were made, one after another, each of which did this; none but the last of them waited, and this is what the last came to
abbrev pub MakesUpTo : {Whole : Type 0} → (Whole → Whole → Turn → Type 0) → ℕ → Whole → Whole → Option Turn → Type 0
MakesUpTo Does zero old new last = (new ≡ old) × (last ≡ None)
MakesUpTo {Whole} Does (suc n) old new last = (now : Whole) × (turn : Turn) × MakesOnward Does n old now × Does now new turn × (last ≡ Some turn)

-- the last turn waited
abbrev pub HasWaited : Option Turn → Type 0
HasWaited (Some (Waits seat answered phase)) = Unit {0}
HasWaited _ = ⊥

-- of so many turns these were made, each of which did this: all of them, or those up to the first that waits
pub record TakesTurns {Whole : Type 0} (Does : Whole → Whole → Turn → Type 0) (n : ℕ) (old new : Whole) (done : TurnsMade) : Type 0 where
  pub most : done.made ≤ n
  pub fewer : done.made < n → HasWaited done.last
  pub each : MakesUpTo Does done.made old new done.last
