-- What a turn is, and why it answers what it does.
use Rattle.std.specs.Prelude.{◌≡◌, ◌≢◌, ◌↔◌, ℕ, ◌+◌, ◌*◌}
use Rattle.heap_words.specs.declared.phase.TheConstants.{LEFT}
use Rattle.heap_model.specs.PhasePlan.{cycle_phases, clearing}
use Rattle.heap_model.specs.declared.calls.collector_calls.Turn.{Turn}
use Rattle.heap_model.specs.declared.calls.collector_calls.Turn.TheVariants.{Waits, Ended}
use Rattle.core_machine.specs.collector.Collector.{next_turn}
use Rattle.core_machine.specs.declared.step.Step.{Step}
use Rattle.core_machine.specs.declared.step.Step.TheVariants.{Turning}
use Rattle.core_machine.specs.declared.step.TurningStep.TheVariants.{LookLoad, EndAdvance}
use Rattle.heap_table.specs.CollectorHeld.{CollectorHeld, IsTurned}
use Rattle.collector_turns.specs.Collector.{CollectorValue}

-- the step that is due by what the holder knows
abbrev pub due_of : CollectorHeld → Step
due_of held = (next_turn held.heap held.known.collector).step

-- the turn loads this seat's word and finds that it is neither the phase nor that of a seat that has left
pub record FindsUnanswered (held : CollectorHeld) (found seat answered phase : ℕ) : Type 0 where
  pub looks : due_of held ≡ Turning (LookLoad seat)
  pub word : found ≡ answered
  pub here : held.known.collector.phase ≡ phase
  pub unanswered : answered ≢ phase
  pub there : answered ≢ LEFT

-- the turn is the one that ends this cycle, of which so many fragments are kept
pub record EndsCycle (held : CollectorHeld) (cycle kept : ℕ) : Type 0 where
  pub ends : due_of held ≡ Turning (EndAdvance (held.known.collector.phase + 1) kept)
  pub cycle_is : held.known.collector.phase ≡ cycle_phases * cycle + clearing

-- the collector made the one step that was due by what its holder knew, and answers by the word found: that it waits exactly where a seat has yet to answer, and that a cycle ended exactly at its end
pub record TakesTurn (old new : CollectorValue) (turn : Turn) : Type 0 where
  pub found : ℕ
  pub turned : IsTurned old.holder new.holder found
  pub answer : turn ≡ (next_turn old.holder.heap old.holder.known.collector).answer found
  pub waits : (seat answered phase : ℕ) → turn ≡ Waits seat answered phase ↔ FindsUnanswered old.holder found seat answered phase
  pub ended : (cycle kept : ℕ) → turn ≡ Ended cycle kept ↔ EndsCycle old.holder cycle kept

-- the collector has room for more entries, and else is as it was
abbrev pub MakesRoom : CollectorValue → CollectorValue → Type 0
MakesRoom old new = new ≡ record old { holder = record old.holder { spare = new.holder.spare } }
