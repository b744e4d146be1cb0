-- Turns of a collector, with the room that was made for each, up to the end of a cycle.
use Rattle.std.specs.Prelude.{◌≡◌, ℕ, zero, suc, ◌+◌, ◌*◌, ◌<◌, ◌≤◌, true, List, [], ◌∷◌, ◌++◌, Some}
use Rattle.std.specs.List.{AllByRecursion}
use Rattle.heap_model.specs.declared.calls.collector_calls.Turn.{Turn}
use Rattle.heap_model.specs.declared.calls.collector_calls.Turn.TheVariants.{Ended}
use Rattle.heap_model.specs.declared.entry.Entry.{Entry}
use Rattle.heap_model.specs.declared.entry.Entry.TheVariants.{Ends}
use Rattle.heap_model.specs.PhasePlan.{cycle_phases}
use Rattle.heap_model.specs.account.Turned.{is_of_heap}
use Rattle.heap_model.specs.calls.CollectorCalls.{CollectorState}
use Rattle.slack_pace.specs.Slack.{CountsTurns}

-- so many turns were made, one after another, each of which did this, and between them nothing but room, which came to that
abbrev pub MakesInRoom : {Whole : Type 0} → (Whole → Whole → Type 0) → (Whole → Whole → Turn → Type 0) → ℕ → Whole → Whole → Type 0
MakesInRoom Rooms Does zero old new = new ≡ old
MakesInRoom {Whole} Rooms Does (suc n) old new = (now : Whole) × (ready : Whole) × (turn : Turn) × MakesInRoom Rooms Does n old now × Rooms now ready × Does ready new turn

-- such turns were made up to the end of the first cycle that begins not before the first of them
pub record EndsWholeCycle {Whole : Type 0} (state : Whole → CollectorState) (Rooms : Whole → Whole → Type 0) (Does : Whole → Whole → Turn → Type 0) (old new : Whole) : Type 0 where
  pub turns : ℕ
  pub made : MakesInRoom Rooms Does turns old new
  pub counted : CountsTurns turns (state old) (state new)
  pub earlier : List Entry
  -- no entry answers a command of the collector
  pub own : AllByRecursion (λ entry. is_of_heap entry ≡ true) earlier
  pub cycle : ℕ
  pub kept : ℕ
  pub told : (state new).log ≡ (state old).log ++ (earlier ++ Ends cycle kept ∷ [])
  pub began : (state old).phase ≤ cycle_phases * cycle
  pub first : cycle_phases * cycle < (state old).phase + cycle_phases
  pub ended : (state new).phase ≡ cycle_phases * cycle + cycle_phases
  pub last : (state new).last_turn ≡ Some (Ended cycle kept)
