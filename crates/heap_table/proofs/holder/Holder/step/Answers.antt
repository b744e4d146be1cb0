use Rattle.std.proofs.Common.{ap}
use Rattle.heap_table.proofs.SeatHolders.{step_has_its_word, step_is_allowed, step_tells_stored, keeps_seat_after_step, due_step_is_step}
use Rattle.heap_table.proofs.holder.Holder.step.Goals as goal

pub touch-found-requires-clause-word : goal.touch-found-requires-clause-word
touch-found-requires-clause-word g c =
    step_has_its_word _ _ _ c.self.inside.token.me c.self.inside.heap c.self.inside.number c.self.inside.party.seat c.self.invariant c.args.step.now (due_step_is_step _ _ _ c.self.view_is c.requires.due)

pub touch-found-requires-clause-rule : goal.touch-found-requires-clause-rule
touch-found-requires-clause-rule g c =
    step_is_allowed _ _ _ c.self.inside.token.me c.self.inside.heap c.self.inside.number c.self.inside.party.seat c.self.invariant c.args.step.now (due_step_is_step _ _ _ c.self.view_is c.requires.due)
    c.deref.result.now.shared.table_id.slots _ _ (ap (λ t. t.shared.table_id.slots) c.deref.ensures) (ap (λ t. t.shared.key) c.deref.ensures)

pub touch-found-requires-clause-stored : goal.touch-found-requires-clause-stored
touch-found-requires-clause-stored g c =
    step_tells_stored _ _ _ c.self.inside.token.me c.self.inside.heap c.self.inside.number c.self.inside.party.seat c.self.invariant c.args.step.now (due_step_is_step _ _ _ c.self.view_is c.requires.due)

pub learn-requires-clause-found : goal.learn-requires-clause-found
learn-requires-clause-found g c = c.touch-found.ensures.tells.1.leads

pub invariant_of-self : goal.invariant_of-self
invariant_of-self g c =
    keeps_seat_after_step _ _ _ c.self.inside.token.me c.self.inside.heap c.self.inside.number c.self.inside.party.seat c.self.invariant _ _ _ c.touch-found.result c.touch-found.ensures.same.0 c.touch-found.ensures.tells c.learn.ensures.seat
