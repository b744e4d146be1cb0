use Rattle.std.proofs.Common.{arith}
use Rattle.core_machine.proofs.machine_lemmas.Parties.{partys_seat_fits}
use Rattle.core_machine.proofs.machine_lemmas.Stepping.{seat_is_a_party, party_may_begin, begin_leaves_machine, begin_leaves_value}
use Rattle.core_machine.proofs.machine.Machine.begin.Goals as goal

pub invariant_of-self : goal.invariant_of-self
invariant_of-self g c =
    let can = rw (← c.self.view_is) at c.requires.can in
    begin_leaves_machine c.self.inside.heap c.self.inside.words.items c.self.inside.seats.items c.self.inside.collector.collector 0 0 c.args.seat c.index_mut-party.result.now c.begin.new.self
    (seat_is_a_party c.self.inside.seats.items can.0) c.index_mut-party.ensures.value c.args.command can.1 c.begin.ensures.seat c.self.invariant

pub returns : goal.returns
returns g c =
    let can = rw (← c.self.view_is) at c.requires.can in
    rw (← c.self.view_is) (begin_leaves_value c.self.inside.heap c.self.inside.words.items c.self.inside.seats.items c.self.inside.collector.collector c.self.inside.collector.spare c.self.inside.collector.forgotten c.args.seat
    c.index_mut-party.result.now c.begin.new.self (seat_is_a_party c.self.inside.seats.items can.0) c.index_mut-party.ensures.value c.args.command c.begin.ensures.seat c.begin.ensures.spare c.begin.ensures.forgotten)

pub index_mut-party-requires : goal.index_mut-party-requires
index_mut-party-requires g c =
    let can = rw (← c.self.view_is) at c.requires.can in
    omega (arith, seat_is_a_party c.self.inside.seats.items can.0, c.self.inside.seats.ok.0)

pub begin-requires-clause-limits : goal.begin-requires-clause-limits
begin-requires-clause-limits g c = c.self.invariant.limits

pub begin-requires-clause-fits : goal.begin-requires-clause-fits
begin-requires-clause-fits g c =
    let can = rw (← c.self.view_is) at c.requires.can in
    partys_seat_fits c.self.inside.heap c.self.inside.words.items c.self.inside.seats.items c.self.inside.collector.collector c.args.seat c.index_mut-party.result.now
    (seat_is_a_party c.self.inside.seats.items can.0) c.index_mut-party.ensures.value c.self.invariant

pub begin-requires-clause-may : goal.begin-requires-clause-may
begin-requires-clause-may g c =
    let can = rw (← c.self.view_is) at c.requires.can in
    party_may_begin c.self.inside.heap c.self.inside.words.items c.self.inside.seats.items c.self.inside.collector.collector 0 0 c.args.seat c.index_mut-party.result.now c.index_mut-party.result.now
    (seat_is_a_party c.self.inside.seats.items can.0) c.index_mut-party.ensures.value c.args.command can.1
