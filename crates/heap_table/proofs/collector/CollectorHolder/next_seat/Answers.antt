use Rattle.std.proofs.Common.{[], sym, ap, ◌∙◌}
use Rattle.atomic_table.specs.Seated.{TableId}
use Rattle.core_machine.specs.machine.Opening.{opening_seat}
use Rattle.heap_table.specs.TokenOf.{IsTokenOf}
use Rattle.heap_table.specs.Views.{seat_view}
use Rattle.heap_table.proofs.OpeningHolders.{handing_splits, keeps_seat_when_handed, handed_within_seats, holder_opens_each, next_is_handed_count, handed_number_within_seats}
use Rattle.heap_table.proofs.collector.CollectorHolder.next_seat.Goals as goal

pub hand_out-token-requires-clause-rule : goal.hand_out-token-requires-clause-rule
hand_out-token-requires-clause-rule g c =
    let i = c.self.invariant in
    handing_splits c.self.inside.heap _ _ c.self.inside.token.me.0 (ap (λ t. t.shared.key) c.deref.ensures ∙ i.token.of.key_is) (ap (λ m. m.0) i.token.knows)
    (handed_within_seats _ _ c.args.number c.self.view_is c.requires.next.0 c.requires.next.1) i.unread

pub invariant_of-result : goal.invariant_of-result
invariant_of-result g c =
    let i = c.self.invariant in
    let its = c.hand_out-token.ensures.handed in
    let table = c.in_ok-table.ensures.cases in
    let number = next_is_handed_count _ _ c.args.number c.self.view_is c.requires.next.0 in
    let of : IsTokenOf _ _ _ c.self.inside.heap = record {
      table = its.0 ∙ i.token.of.table ∙ ap (λ t. t.shared.table_id) (sym table);
      size = ap (λ (z : TableId). z.words) its.0 ∙ i.token.of.size;
      slots = ap (λ (z : TableId). z.slots) its.0 ∙ i.token.of.slots;
      key_is = ap (λ t. t.shared.key) table ∙ i.token.of.key_is;
    } in
    keeps_seat_when_handed c.self.inside.heap _ _ _ _ c.args.number _ (holder_opens_each _ _ c.self.view_is c.requires.opens) i.token.limits of (handed_number_within_seats _ _ c.args.number c.self.view_is c.requires.next.1)
    (its.1 ∙ ap (λ n. (seat_view n (opening_seat c.self.inside.heap n), [])) (sym number)) c.opening-party.ensures
