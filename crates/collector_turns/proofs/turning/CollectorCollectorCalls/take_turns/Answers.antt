use Rattle.std.proofs.Common.{Some, sym, ◌∙◌}
use Rattle.collector_turns.proofs.ManyTurned.{holder_takes_turns}
use Rattle.collector_turns.proofs.turning.CollectorCollectorCalls.take_turns.Goals as goal

pub returns-in-Some-clause-turns : goal.returns-in-Some-clause-turns
returns-in-Some-clause-turns g c =
    (holder_takes_turns (record { holder = c.self.inside.holder; last_turn = c.self.inside.last_turn }) _ (record { holder = c.take_turns-done.new.self; last_turn = Some c.in-Some.last }) _ c.take_turns-done.result c.self.view_is c.take_turns-done.ensures
    (λ none. absurd (cc (none, c.in-Some.is))) (λ turn is. sym c.in-Some.is ∙ is)).0

pub returns-in-Some-clause-turned : goal.returns-in-Some-clause-turned
returns-in-Some-clause-turned g c =
    (holder_takes_turns (record { holder = c.self.inside.holder; last_turn = c.self.inside.last_turn }) _ (record { holder = c.take_turns-done.new.self; last_turn = Some c.in-Some.last }) _ c.take_turns-done.result c.self.view_is c.take_turns-done.ensures
    (λ none. absurd (cc (none, c.in-Some.is))) (λ turn is. sym c.in-Some.is ∙ is)).1
