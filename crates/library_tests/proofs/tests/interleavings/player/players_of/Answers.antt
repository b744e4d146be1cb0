use Rattle.library_tests.specs.declared.tests.interleavings.player.Player.{Player}
use Rattle.library_tests.proofs.Players.{players_with_one_more}
use Rattle.library_tests.proofs.tests.interleavings.player.players_of.Goals as goal

pub loop-holder-preserved : goal.loop-holder-preserved
loop-holder-preserved c =
    players_with_one_more (λ (player : Player). player.holder) c.loop-holder.players.items _ c.in_ok-player.player _ c.next.new.self.rest.items c.args.holders.items c.in-Some.holder c.loop-holder.invariant c.in-Some.ensures.steps.0 c.in_ok-push.ensures.items c.in_ok-player.ensures
