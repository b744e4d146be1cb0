use Rattle.std.proofs.Common.{arith}
use Rattle.core_machine.proofs.machine_lemmas.Stepping.{seat_is_a_party, inner_begin_leaves_machine, inner_begin_leaves_value}
use Rattle.core_machine.proofs.machine.Machine.begin_inner.Goals as goal

pub invariant_of-self : goal.invariant_of-self
invariant_of-self g c =
    let can = rw (← c.self.view_is) at c.requires.can in
    inner_begin_leaves_machine c.self.inside.heap c.self.inside.words.items c.self.inside.seats.items c.self.inside.collector.collector 0 0 c.args.seat c.index_mut-party.result.now c.begin_inner.new.self
    (seat_is_a_party c.self.inside.seats.items can.0) c.index_mut-party.ensures.value c.args.inner can.1 c.begin_inner.ensures.seat c.self.invariant

pub returns : goal.returns
returns g c =
    let can = rw (← c.self.view_is) at c.requires.can in
    rw (← c.self.view_is) (inner_begin_leaves_value c.self.inside.heap c.self.inside.words.items c.self.inside.seats.items c.self.inside.collector.collector c.self.inside.collector.spare c.self.inside.collector.forgotten c.args.seat
    c.index_mut-party.result.now c.begin_inner.new.self (seat_is_a_party c.self.inside.seats.items can.0) c.index_mut-party.ensures.value c.args.inner c.begin_inner.ensures.seat c.begin_inner.ensures.spare c.begin_inner.ensures.forgotten)

pub index_mut-party-requires : goal.index_mut-party-requires
index_mut-party-requires g c =
    let can = rw (← c.self.view_is) at c.requires.can in
    omega (arith, seat_is_a_party c.self.inside.seats.items can.0, c.self.inside.seats.ok.0)
