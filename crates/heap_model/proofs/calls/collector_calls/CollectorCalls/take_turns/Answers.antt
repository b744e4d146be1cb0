use Rattle.heap_model.specs.calls.CollectorCalls.{Turns}
use Rattle.heap_model.proofs.call_lemmas.ManyTurnsLemmas.{unless_it_waits, has_waited, one_more_so, taken_up_to_wait, one_more_grows}
use Rattle.heap_model.proofs.calls.collector_calls.CollectorCalls.take_turns.Goals as goal

pub returns-in-Waits-clause-turns : goal.returns-in-Waits-clause-turns
returns-in-Waits-clause-turns g c = taken_up_to_wait Turns _ _ _ _ _ _ c.loop-made-test.true c.loop-made.invariant.0.onward c.turn-turn.ensures.turns (has_waited _ _ _ _ c.in-Waits.is)

pub returns-in-Waits-clause-turned : goal.returns-in-Waits-clause-turned
returns-in-Waits-clause-turned g c =
    taken_up_to_wait g.Self.CollectorCalls.turned _ _ _ _ _ _ c.loop-made-test.true c.loop-made.invariant.1.onward c.turn-turn.ensures.turned (has_waited _ _ _ _ c.in-Waits.is)

pub loop-made-preserved : goal.loop-made-preserved
loop-made-preserved g c =
    let onward = unless_it_waits _ c.in_default.not-Waits in (
      one_more_so Turns _ _ _ _ _ c.loop-made.invariant.0.onward c.turn-turn.ensures.turns onward,
      one_more_so g.Self.CollectorCalls.turned _ _ _ _ _ c.loop-made.invariant.1.onward c.turn-turn.ensures.turned onward,
      one_more_grows _ _ _ _ _ c.loop-made.invariant.2 c.turn-turn.ensures.turns,
    )
