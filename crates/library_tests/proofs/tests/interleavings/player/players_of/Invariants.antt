use Rattle.std.proofs.Common.{◌≡◌, ◌++◌, map}
use Rattle.library_tests.specs.declared.tests.interleavings.player.Player.{Player}
use Rattle.library_tests.proofs.tests.interleavings.player.players_of.Given as goal

abbrev pub invariant-loop-holder : goal.invariant-loop-holder
invariant-loop-holder l = map (λ (player : Player). player.holder) l.players.items ++ l.holder-iterator.rest.items ≡ l.fn.holders.items
