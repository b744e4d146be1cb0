use Rattle.std.proofs.Common.{suc, sym, subst, ◌∙◌}
use Rattle.heap_model.specs.declared.calls.collector_calls.Turn.{Turn}
use Rattle.heap_runs.specs.PlayHeap.{PlayState, TakesTurn}
use Rattle.heap_runs.specs.Turning.{IsStep}
use Rattle.heap_runs.proofs.TurnFacts.{turn_is_step, turn_waits_for, has_turned_once_more, has_come_to_reply, waiting_turn_shows, ending_turn_shows}
use Rattle.heap_runs.proofs.turning.end_cycle.Goals as goal

pub loop-turn-preserved : goal.loop-turn-preserved
loop-turn-preserved g c =
    let turned = c.loop-turn.invariant in
    (suc turned.0, has_turned_once_more IsStep _ (g.H.PlayHeap.state c.loop-turn.whole) _ turned.0 c.in_ok-turn.turn turned.1 c.in_ok-turn.ensures.turn (turn_is_step _ (sym c.behind.ensures ∙ c.in_default.is) (λ cycle kept is. c.in_default-turn.not-Ended cycle kept is)))

pub returns-in-Some : goal.returns-in-Some
returns-in-Some g c =
    let now : PlayState = g.H.PlayHeap.state c.loop-turn.whole in
    let new : PlayState = g.H.PlayHeap.state c.turn.new.self in
    let behind = c.in-Some.behind in
    let takes = subst (λ (turn : Turn). TakesTurn now new turn) (turn_waits_for _ behind (sym c.behind.ensures ∙ c.in-Some.is)) c.in_ok-turn.ensures.turn in
    rw c.from.ensures (has_come_to_reply IsStep _ now new c.loop-turn.invariant.0 _ _ c.loop-turn.invariant.1 takes (waiting_turn_shows now new behind.seat behind.answered behind.phase takes))

pub returns-in-Ended : goal.returns-in-Ended
returns-in-Ended g c =
    let now : PlayState = g.H.PlayHeap.state c.loop-turn.whole in
    let new : PlayState = g.H.PlayHeap.state c.turn.new.self in
    let takes = subst (λ (turn : Turn). TakesTurn now new turn) c.in-Ended.is c.in_ok-turn.ensures.turn in
    (c.in-Ended.kept, has_come_to_reply IsStep _ now new c.loop-turn.invariant.0 _ _ c.loop-turn.invariant.1 takes (ending_turn_shows now new c.in-Ended.cycle c.in-Ended.kept takes))
