use Rattle.std.proofs.Common.{◌∙◌}
use Rattle.core_machine.proofs.machine_lemmas.Parties.{partys_seat_fits}
use Rattle.core_machine.proofs.machine_lemmas.PartySteps.{partys_due, none_is_due, party_number_is_seats}
use Rattle.core_machine.proofs.machine.Machine.due_of_seat.Goals as goal

pub due-requires-clause-limits : goal.due-requires-clause-limits
due-requires-clause-limits g c = c.self.invariant.limits

pub due-requires-clause-number : goal.due-requires-clause-number
due-requires-clause-number g c =
    let found = rw c.deref.ensures.value at c.in_ok-party.ensures.lookup in
    party_number_is_seats _ _ _ _ _ _ _ c.args.seat c.self.view_is found.3.0 c.self.invariant

pub due-requires-clause-fits : goal.due-requires-clause-fits
due-requires-clause-fits g c =
    let found = rw c.deref.ensures.value at c.in_ok-party.ensures.lookup in
    partys_seat_fits c.self.inside.heap c.self.inside.words.items c.self.inside.seats.items c.self.inside.collector.collector c.args.seat c.in_ok-party.party.now found.3.0 found.1 c.self.invariant

pub returns : goal.returns
returns g c =
    let found = rw c.deref.ensures.value at c.in_ok-party.ensures.lookup in
    c.due.ensures ∙ partys_due _ _ _ _ _ _ _ c.args.seat c.self.view_is c.in_ok-party.party.now found.3.0 found.1

pub returns-in_err-party : goal.returns-in_err-party
returns-in_err-party g c =
    let found = rw c.deref.ensures.value at c.in_err-party.ensures.lookup in
    c.from_residual.ensures ∙ none_is_due _ _ _ _ _ _ _ c.args.seat c.self.view_is found.3
