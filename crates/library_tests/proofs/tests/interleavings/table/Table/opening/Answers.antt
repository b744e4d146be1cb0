use Rattle.library_tests.specs.declared.tests.interleavings.player.Player.{Player}
use Rattle.library_tests.proofs.Players.{players_are_of_table}
use Rattle.library_tests.proofs.tests.interleavings.table.Table.opening.Goals as goal

pub invariant_of-result : goal.invariant_of-result
invariant_of-result c =
    players_are_of_table (λ (player : Player). player.holder) c.in_ok-holders.collector c.args.heap c.in_ok-players_of.field-0.items c.in_ok-holders.holders.items c.in_ok-players_of.ensures c.in_ok-holders.ensures.each c.in_ok-holders.ensures.heap
