-- What one turn of the collector does: what is due, and what it does to the collector and adds to its entries.
use Rattle.std.specs.Prelude.{ℕ, ◌+◌, List, [], ◌++◌}
use Rattle.heap_model.specs.declared.calls.collector_calls.Turn.{Turn}
use Rattle.heap_model.specs.declared.calls.collector_calls.Turn.TheVariants.{Stepped}
use Rattle.heap_model.specs.declared.entry.Entry.{Entry}
use Rattle.core_machine.specs.declared.collector.stage.Stage.{Stage}
use Rattle.core_machine.specs.declared.collector.stage.Stage.TheVariants.{Looking}
use Rattle.core_machine.specs.declared.step.Step.{Step}

-- what the machine keeps of the collector
pub record Collector : Type 0 where
  -- the phase
  pub phase : ℕ
  -- where it stands in the phase
  pub stage : Stage
  -- how many seats it has seen to have answered the phase, or to have left
  pub looked : ℕ
  -- its entries, in their order
  pub log : List Entry

-- the collector once the next phase has begun
abbrev pub after_advance : Collector → Collector
after_advance collector = record collector { phase = collector.phase + 1; stage = Looking; looked = 0 }

-- one turn of the collector: each turn is a row that says all of it
pub record TurnMove : Type 1 where
  -- the step that is due
  pub step : Step
  -- the collector after it, by the word found; its entries are left as they are
  pub told : ℕ → Collector
  -- what it adds to the collector's entries and to the history
  pub adds : List Entry
  -- what it answers, by the word found
  pub answer : ℕ → Turn
  -- under which condition it may be made
  pub may : Type 0

-- a turn that adds no entry, and that may always be made
abbrev pub quiet_turn : Step → (ℕ → Collector) → (ℕ → Turn) → TurnMove
quiet_turn step told answer = record { step = step; told = told; adds = []; answer = answer; may = Unit {0} }

-- a turn of a phase's work that adds no entry: it has made a step whatever it found
abbrev pub work_turn : Step → (ℕ → Collector) → TurnMove
work_turn step told = quiet_turn step told (λ found. Stepped)

-- the collector after a turn that found this word
abbrev pub collector_after : TurnMove → ℕ → Collector
collector_after turn found = record (turn.told found) { log = (turn.told found).log ++ turn.adds }
