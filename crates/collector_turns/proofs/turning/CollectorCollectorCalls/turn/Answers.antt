use Rattle.std.proofs.Common.{Some, refl}
use Rattle.collector_turns.proofs.Turned.{holder_takes_turn}
use Rattle.collector_turns.proofs.turning.CollectorCollectorCalls.turn.Goals as goal

pub returns-clause-turns : goal.returns-clause-turns
returns-clause-turns g c =
    let made = c.turn-turn.ensures in
    (holder_takes_turn (record { holder = c.self.inside.holder; last_turn = c.self.inside.last_turn }) _ (record { holder = c.turn-turn.new.self; last_turn = Some c.turn-turn.result.1 }) _ _ c.self.view_is made.turned made.answer made.told refl).0

pub returns-clause-turned : goal.returns-clause-turned
returns-clause-turned g c =
    let made = c.turn-turn.ensures in
    (holder_takes_turn (record { holder = c.self.inside.holder; last_turn = c.self.inside.last_turn }) _ (record { holder = c.turn-turn.new.self; last_turn = Some c.turn-turn.result.1 }) _ _ c.self.view_is made.turned made.answer made.told refl).1
