use Rattle.std.proofs.Common.{arith}
use Rattle.core_machine.proofs.machine_lemmas.PartySteps.{seat_is_due, turn_is_due}
use Rattle.core_machine.proofs.machine.Machine.due.Goals as goal

pub due-requires-clause-limits : goal.due-requires-clause-limits
due-requires-clause-limits g c = c.self.invariant.limits

pub due-requires-clause-fits : goal.due-requires-clause-fits
due-requires-clause-fits g c = c.self.invariant.collector_fit

pub returns-then-party-len : goal.returns-then-party-len
returns-then-party-len g c = seat_is_due _ _ _ _ _ _ _ c.args.party c.self.view_is _ (omega (arith, c.if-party-len.true, c.len.ensures)) c.due_of_seat.ensures

pub returns-else-party-len : goal.returns-else-party-len
returns-else-party-len g c =
    turn_is_due _ _ _ _ _ _ _ c.args.party c.self.view_is (omega (arith, c.if-party-len.false, c.len.ensures)) c.requires _ c.due.ensures
