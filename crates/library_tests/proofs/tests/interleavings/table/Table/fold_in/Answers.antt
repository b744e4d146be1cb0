use Rattle.std.proofs.Common.{All, ap, subst}
use Rattle.heap_table.specs.CollectorHeld.{CollectorHeld}
use Rattle.library_tests.specs.declared.tests.interleavings.player.Player.{Player}
use Rattle.library_tests.specs.SameSeat.{IsOfTable}
use Rattle.library_tests.proofs.Players.{players_stay_of_table}
use Rattle.library_tests.proofs.Popped.{all_of_popped_list}
use Rattle.library_tests.proofs.tests.interleavings.table.Table.fold_in.Goals as goal

pub invariant_of-self-then-left : goal.invariant_of-self-then-left
invariant_of-self-then-left c =
    let Of : Player → Type 0 = λ player. IsOfTable c.self.inside.collector player.holder in
    let front = (all_of_popped_list Of c.pop.new.self.items c.in-Some.player (subst (All Of) c.in-Some.ensures.items c.self.invariant)).0 in
    players_stay_of_table (λ (player : Player). player.holder) c.self.inside.collector c.fold_in.new.self c.pop.new.self.items (ap (λ (h : CollectorHeld). h.table) c.fold_in.ensures) (ap (λ (h : CollectorHeld). h.heap) c.fold_in.ensures) front

pub invariant_of-self-else-left : goal.invariant_of-self-else-left
invariant_of-self-else-left c =
    let Of : Player → Type 0 = λ player. IsOfTable c.self.inside.collector player.holder in (all_of_popped_list Of c.pop.new.self.items c.in-Some.player (subst (All Of) c.in-Some.ensures.items c.self.invariant)).0
