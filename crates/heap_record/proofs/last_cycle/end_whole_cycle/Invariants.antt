use Rattle.heap_record.proofs.TurnsInRoom.{HasMade}
use Rattle.heap_record.proofs.last_cycle.end_whole_cycle.Given as goal

-- the turns so far were made
abbrev pub invariant-loop : goal.invariant-loop
invariant-loop g l = HasMade g.C.CollectorCalls.state g.C.CollectorCalls.roomed g.C.CollectorCalls.turned l.fn.collector l.collector
