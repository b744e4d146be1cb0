use Rattle.heap_table.proofs.SeatHolders.{keeps_seat_after_begin, holder_may_begin}
use Rattle.heap_table.proofs.holder.Holder.begin.Goals as goal

pub invariant_of-self : goal.invariant_of-self
invariant_of-self g c = keeps_seat_after_begin _ _ _ c.self.inside.token.me c.self.inside.heap c.self.inside.number c.self.inside.party.seat c.self.invariant c.args.command _ (holder_may_begin _ _ _ c.self.view_is c.requires.may) c.begin.ensures.seat
