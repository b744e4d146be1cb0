use Rattle.std.proofs.Common.{refl, sym, subst}
use Rattle.heap_table.specs.CollectorHeld.{CollectorHeld}
use Rattle.heap_table.specs.Folded.{AllFolded}
use Rattle.heap_table.specs.Views.{known_by}
use Rattle.heap_table.proofs.Histories.{shown_have_one_history, closed_has_one_history}
use Rattle.heap_table.proofs.collector.CollectorHolder.close_quietly.Goals as goal

pub read_each-requires-clause-folded : goal.read_each-requires-clause-folded
read_each-requires-clause-folded g c = subst (λ (v : CollectorHeld). AllFolded v.heap v.known.seats) (sym c.self.view_is) c.requires

pub returns : goal.returns
returns g c =
    let i = c.self.invariant in (
      (known_by c.read_each.new.token.me.0).closed,
      shown_have_one_history _ _ _ c.self.view_is
          (closed_has_one_history c.self.inside.heap (known_by c.self.inside.token.me.0) _ c.self.inside.seat_slots.items _ _ _ c.read_each.ensures.known i.seats_are i.a_slot_each c.read_each.ensures.ends c.read_each.ensures.whole refl refl),
    )
