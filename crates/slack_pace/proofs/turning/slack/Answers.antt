use Rattle.std.proofs.Common.{arith}
use Rattle.slack_pace.proofs.TurnFacts.{up_to_adds, up_to_is_each, up_to_tells_last}
use Rattle.slack_pace.proofs.turning.slack.Goals as goal

pub returns-clause-counted : goal.returns-clause-counted
returns-clause-counted g c =
    let turns = c.take_turns-made.ensures.turns in
    (up_to_adds _ _ _ _ turns.each (omega (arith, turns.most, c.requires, c.turns-asked.ensures.1))).counted

pub returns-clause-entries : goal.returns-clause-entries
returns-clause-entries g c =
    let turns = c.take_turns-made.ensures.turns in
    (up_to_adds _ _ _ _ turns.each (omega (arith, turns.most, c.requires, c.turns-asked.ensures.1))).logged

pub returns-clause-spare : goal.returns-clause-spare
returns-clause-spare g c =
    let turns = c.take_turns-made.ensures.turns in
    (up_to_adds _ _ _ _ turns.each (omega (arith, turns.most, c.requires, c.turns-asked.ensures.1))).spare

pub returns-clause-no_more : goal.returns-clause-no_more
returns-clause-no_more g c =
    let turns = c.take_turns-made.ensures.turns in
    (up_to_adds _ _ _ _ turns.each (omega (arith, turns.most, c.requires, c.turns-asked.ensures.1))).no_more
