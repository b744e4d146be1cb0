-- The collector of a table that opens.
use Rattle.std.proofs.Common.{◌≡◌, ap}
use Rattle.std.specs.Prelude.{Option, None}
use Rattle.heap_model.specs.declared.calls.collector_calls.Turn.{Turn}
use Rattle.collector_turns.specs.Collector.{CollectorValue}

-- one that has made no turn is its holder, and no more
pub fresh_collector : (collector : CollectorValue) → collector.last_turn ≡ None → collector ≡ record { holder = collector.holder; last_turn = None }
fresh_collector collector fresh = ap (λ (turn : Option Turn). record collector { last_turn = turn }) fresh
