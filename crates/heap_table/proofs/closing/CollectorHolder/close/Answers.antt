use Rattle.std.proofs.Common.{map, sym, ap, ◌∙◌, subst}
use Rattle.std.proofs.lemmas.List.{map-append}
use Rattle.heap_table.specs.Closed.{logs_known}
use Rattle.heap_table.specs.CollectorHeld.{CollectorHeld}
use Rattle.heap_table.specs.Folded.{AllFolded}
use Rattle.heap_table.specs.Views.{known_by}
use Rattle.heap_table.proofs.Histories.{closed_logs_are_known, closed_has_one_history}
use Rattle.heap_table.proofs.closing.CollectorHolder.close.Goals as goal

pub read_all-requires-clause-folded : goal.read_all-requires-clause-folded
read_all-requires-clause-folded c = subst (λ (v : CollectorHeld). AllFolded v.heap v.known.seats) (sym c.self.view_is) c.requires

pub of-requires : goal.of-requires
of-requires c =
    let i = c.self.invariant in
    closed_has_one_history c.self.inside.heap (known_by c.self.inside.token.me.0) _ c.self.inside.seat_slots.items _ _ _ c.read_all.ensures.known i.seats_are i.a_slot_each c.read_all.ensures.ends c.read_all.ensures.whole
    (closed_logs_are_known c.self.inside.seat_slots.items (known_by c.self.inside.token.me.0) c.self.inside.party.collector _ _ _ c.into_entries.result.items i.seats_are i.collector_is c.into_entries.ensures
    (ap (map (λ log. log.items)) c.in-Ok-with_capacity.ensures.items) c.move_logs.ensures.logs (ap (map (λ log. log.items)) c.push_reserved.ensures.items ∙ map-append _ _ _)) i.folded_is

pub returns-clause-logs : goal.returns-clause-logs
returns-clause-logs c =
    let i = c.self.invariant in
    ap (λ v. v.logs) c.of.ensures
    ∙ closed_logs_are_known c.self.inside.seat_slots.items (known_by c.self.inside.token.me.0) c.self.inside.party.collector _ _ _ c.into_entries.result.items i.seats_are i.collector_is c.into_entries.ensures
    (ap (map (λ log. log.items)) c.in-Ok-with_capacity.ensures.items) c.move_logs.ensures.logs (ap (map (λ log. log.items)) c.push_reserved.ensures.items ∙ map-append _ _ _)
    ∙ ap (λ (v : CollectorHeld). logs_known v.known) c.self.view_is
