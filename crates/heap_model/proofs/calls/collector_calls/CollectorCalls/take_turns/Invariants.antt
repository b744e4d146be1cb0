use Rattle.heap_model.specs.calls.CollectorCalls.{Turns}
use Rattle.heap_model.proofs.call_lemmas.ManyTurnsLemmas.{MakesSo, Grows}
use Rattle.heap_model.proofs.calls.collector_calls.CollectorCalls.take_turns.Given as goal

-- the turns so far were made, none of them waited, and the last came to what is kept of it
abbrev pub invariant-loop-made : goal.invariant-loop-made
invariant-loop-made g l =
    MakesSo Turns l.made (g.Self.CollectorCalls.state l.fn.self) (g.Self.CollectorCalls.state l.self) l.last
    × MakesSo g.Self.CollectorCalls.turned l.made l.fn.self l.self l.last
    × Grows l.made (g.Self.CollectorCalls.state l.fn.self) (g.Self.CollectorCalls.state l.self)
