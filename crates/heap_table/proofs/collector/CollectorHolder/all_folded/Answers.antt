use Rattle.std.proofs.Common.{ap, ◌∙◌}
use Rattle.std.specs.List.{list_all}
use Rattle.std.specs.Prelude.{is_some}
use Rattle.heap_table.specs.Views.{known_by}
use Rattle.heap_table.proofs.CollectorHolders.{full_is_all_folded, holder_full_is_folded}
use Rattle.heap_table.proofs.collector.CollectorHolder.all_folded.Goals as goal

pub returns : goal.returns
returns g c =
    let i = c.self.invariant in
    holder_full_is_folded _ _ c.all_full.result c.self.view_is (full_is_all_folded c.self.inside.heap c.self.inside.seat_slots.items (known_by c.self.inside.token.me.0) c.all_full.result (c.all_full.ensures ∙ ap (list_all is_some) c.as_slice.ensures.value) i.seats_are i.a_slot_each)
