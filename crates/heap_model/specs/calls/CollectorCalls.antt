-- What contracts see of the collector, and what one of its turns does.
use Rattle.std.specs.Prelude.{◌≡◌, ◌≢◌, ℕ, ◌+◌, ◌-◌, ◌*◌, ◌%◌, ◌<◌, ◌≤◌, ◌^◌, ◌⊎◌, min, List, [], ◌∷◌, ◌++◌, length, Option, Some}
use Rattle.heap_model.specs.declared.entry.Entry.{Entry}
use Rattle.heap_model.specs.declared.entry.Entry.TheVariants as entries
use Rattle.heap_model.specs.Limits.{most_seats, left_word}
use Rattle.heap_model.specs.PhasePlan.{cycle_phases, rest, copying, sweep, clearing}
use Rattle.heap_model.specs.declared.calls.collector_calls.Turn.{Turn}
use Rattle.heap_model.specs.declared.calls.collector_calls.Turn.TheVariants as turns

-- what contracts see of the collector
pub record CollectorState : Type 0 where
  -- its entries, in their order
  pub log : List Entry
  -- for how many more entries it has room
  pub spare : ℕ
  -- the phase
  pub phase : ℕ
  -- how many turns it has made, as far as 64 bits count them
  pub turns : ℕ
  -- what its last turn answered
  pub last_turn : Option Turn

-- a turn that ends no cycle may tell this entry in the first phase, and leads to the second
abbrev pub StepsTo : ℕ → Entry → ℕ → Type 0
StepsTo phase (entries.Advance next) later = (next ≡ phase + 1) × (next % cycle_phases ≢ rest) × (later ≡ next)
StepsTo phase (entries.Frees count) later = (phase % cycle_phases ≡ sweep) × (1 ≤ count) × (later ≡ phase)
StepsTo phase (entries.Returns count) later = (phase % cycle_phases ≡ sweep) × (1 ≤ count) × (later ≡ phase)
StepsTo phase (entries.Swings id) later = (phase % cycle_phases ≡ copying) × (later ≡ phase)
StepsTo phase _ later = ⊥

-- no entry was added, and the phase is the same
abbrev pub AddsNone : CollectorState → CollectorState → Type 0
AddsNone old new = (new.log ≡ old.log) × (new.phase ≡ old.phase)

-- the turn made a step, or found a seat that is one phase behind, or ended a cycle
abbrev pub ComesTo : CollectorState → CollectorState → Turn → Type 0
ComesTo old new turns.Stepped = AddsNone old new ⊎ ((entry : Entry) × StepsTo old.phase entry new.phase × (new.log ≡ old.log ++ entry ∷ []))
ComesTo old new (turns.Waits seat answered phase) =
    AddsNone old new × (seat < most_seats) × (phase ≡ old.phase) × (answered + 1 ≡ phase) × (answered ≢ left_word)
ComesTo old new (turns.Ended cycle kept) =
    (new.log ≡ old.log ++ entries.Ends cycle kept ∷ []) × (old.phase ≡ cycle_phases * cycle + clearing) × (new.phase ≡ cycle_phases * cycle + cycle_phases)

-- one turn was made, and this is its answer; where there was room for it, no more was made
pub record Turns (old new : CollectorState) (turn : Turn) : Type 0 where
  pub comes_to : ComesTo old new turn
  pub spare : old.spare + length old.log ≤ new.spare + length new.log
  pub no_more : 2 ≤ old.spare → new.spare ≤ old.spare
  pub counted : new.turns ≡ min (old.turns + 1) (2 ^ 64 - 1)
  pub last : new.last_turn ≡ Some turn
