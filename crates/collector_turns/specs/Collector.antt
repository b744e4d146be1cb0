-- What contracts see of a collector.
use Rattle.std.specs.Prelude.{Option}
use Rattle.heap_model.specs.calls.CollectorCalls.{CollectorState}
use Rattle.heap_model.specs.declared.calls.collector_calls.Turn.{Turn}
use Rattle.heap_table.specs.CollectorHeld.{CollectorHeld}

-- what its holder knows and has, and what its last turn answered
pub record CollectorValue : Type 0 where
  pub holder : CollectorHeld
  pub last_turn : Option Turn

-- so much of it as is seen of every collector
abbrev pub state_of : CollectorValue → CollectorState
state_of value = record {
  log = value.holder.known.collector.log;
  spare = value.holder.spare;
  phase = value.holder.known.collector.phase;
  turns = value.holder.turns;
  last_turn = value.last_turn;
}
