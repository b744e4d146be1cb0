use Rattle.std.proofs.Common.{subst, arith}
use Rattle.heap_model.specs.declared.calls.collector_calls.Turn.{Turn}
use Rattle.heap_model.specs.calls.CollectorCalls.{Turns}
use Rattle.heap_record.proofs.TurnsInRoom.{has_made_no_turn, has_made_one_more, ends_whole_cycle_when_made}
use Rattle.heap_record.proofs.last_cycle.end_whole_cycle.Goals as goal

pub loop-init : goal.loop-init
loop-init g c = has_made_no_turn _ g.C.CollectorCalls.state g.C.CollectorCalls.roomed g.C.CollectorCalls.turned c.args.collector.now

pub loop-preserved : goal.loop-preserved
loop-preserved g c =
    has_made_one_more _ g.C.CollectorCalls.state g.C.CollectorCalls.roomed g.C.CollectorCalls.turned c.args.collector.now c.loop.collector c.room.new.self c.turn.new.self c.loop.invariant c.room.ensures.same c.room.ensures.stays
    c.turn.result c.turn.ensures.turns c.turn.ensures.turned

pub loop-preserved-else-cycle-target : goal.loop-preserved-else-cycle-target
loop-preserved-else-cycle-target g c =
    has_made_one_more _ g.C.CollectorCalls.state g.C.CollectorCalls.roomed g.C.CollectorCalls.turned c.args.collector.now c.loop.collector c.room.new.self c.turn.new.self c.loop.invariant c.room.ensures.same c.room.ensures.stays
    c.turn.result c.turn.ensures.turns c.turn.ensures.turned

pub returns-then-cycle-target : goal.returns-then-cycle-target
returns-then-cycle-target g c =
    ends_whole_cycle_when_made _ g.C.CollectorCalls.state g.C.CollectorCalls.roomed g.C.CollectorCalls.turned c.args.collector.now c.loop.collector c.room.new.self c.turn.new.self c.loop.invariant c.room.ensures.same c.room.ensures.stays
    c.in-Ended.cycle c.in-Ended.kept
    (subst (λ (turn : Turn). Turns (g.C.CollectorCalls.state c.room.new.self) (g.C.CollectorCalls.state c.turn.new.self) turn) c.in-Ended.is c.turn.ensures.turns)
    (subst (λ (turn : Turn). g.C.CollectorCalls.turned c.room.new.self c.turn.new.self turn) c.in-Ended.is c.turn.ensures.turned)
    (omega (arith, c.phase.ensures.phase, c.next_whole_cycle-target.ensures.behind, c.if-cycle-target.true))
    (omega (arith, c.phase.ensures.phase, c.next_whole_cycle-target.ensures.first, c.if-cycle-target.true))
