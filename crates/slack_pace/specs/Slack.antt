-- How many turns a pace asks for, and what it is to make them.
use Rattle.std.specs.Prelude.{◌≡◌, ℕ, zero, suc, ◌+◌, ◌-◌, ◌*◌, ◌^◌, min, Option, Some, None}
use Rattle.heap_model.specs.declared.calls.collector_calls.Turn.{Turn}
use Rattle.heap_model.specs.calls.CollectorCalls.{CollectorState, Turns}
pub use Rattle.heap_model.specs.calls.ManyTurns.{GoesOnward, MakesOnward, HasWaited}

-- the most turns that a pace asks for at once
abbrev pub most_slack_turns : ℕ
most_slack_turns = 4096

-- the room for entries with which the most turns are made
abbrev pub slack_room : ℕ
slack_room = most_slack_turns + 2

-- sixteen turns, and eight more for each fragment claimed, up to the most at once
abbrev pub steady_turns : ℕ → ℕ
steady_turns claimed = min most_slack_turns (16 + 8 * claimed)

-- so many turns were made, one after another, each of which did this, and none but the last of them waited
abbrev pub MakesEach : {Whole : Type 0} → (Whole → Whole → Turn → Type 0) → ℕ → Whole → Whole → Type 0
MakesEach Does zero old new = new ≡ old
MakesEach {Whole} Does (suc n) old new = (now : Whole) × (turn : Turn) × MakesOnward Does n old now × Does now new turn

-- so many turns of a collector were made, and none but the last of them waited
abbrev pub MakesTurns : ℕ → CollectorState → CollectorState → Type 0
MakesTurns n old new = MakesEach Turns n old new

-- the number of turns rose by so many, or it stands at its last value
abbrev pub CountsTurns : ℕ → CollectorState → CollectorState → Type 0
CountsTurns made old new = min new.turns (2 ^ 64 - 1) ≡ min (old.turns + made) (2 ^ 64 - 1)

-- what the last of so many turns answered, if any was made
abbrev pub last_made : ℕ → CollectorState → Option Turn
last_made zero new = None
last_made (suc n) new = new.last_turn
