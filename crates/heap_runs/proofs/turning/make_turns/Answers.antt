use Rattle.std.proofs.Common.{refl, sym, subst, ◌∙◌, arith}
use Rattle.heap_model.specs.declared.calls.collector_calls.Turn.{Turn}
use Rattle.heap_runs.specs.PlayHeap.{PlayState, TakesTurn}
use Rattle.heap_runs.proofs.TurnFacts.{turn_waits_for, waiting_turn_shows}
use Rattle.heap_runs.proofs.turning.make_turns.Goals as goal

pub loop-init : goal.loop-init
loop-init g c = record { taken = refl; counted = omega arith }

pub returns-in-Some : goal.returns-in-Some
returns-in-Some g c =
    let now : PlayState = g.H.PlayHeap.state c.loop.whole in
    let new : PlayState = g.H.PlayHeap.state c.turn.new.self in
    let behind = c.in-Some.behind in
    let waits = subst (λ (turn : Turn). TakesTurn now new turn) (turn_waits_for _ behind (sym c.behind.ensures ∙ c.in-Some.is)) c.in_ok-turn.ensures.turn in
    rw c.from.ensures (
      record {
        earlier = c.loop.counter;
        now = now;
        turned = c.loop.invariant;
        takes = waits;
        counted = omega (arith, c.loop.invariant.counted, waits.turned.counted);
        shows = waiting_turn_shows now new behind.seat behind.answered behind.phase waits;
      },
      omega (arith, c.loop-test.true),
    )
