use Rattle.heap_table.proofs.SeatHolders.{idle_is_as_told, holder_is_as_told}
use Rattle.heap_table.proofs.holder.Holder.party.Goals as goal

pub returns-clause-own : goal.returns-clause-own
returns-clause-own g c = holder_is_as_told _ _ c.self.view_is (idle_is_as_told _ _ _ c.self.inside.token.me c.self.inside.heap c.self.inside.number c.self.inside.party.seat c.self.invariant)
