use Rattle.core_machine.proofs.machine_lemmas.Parties.{inner_begins_of, none_begins}
use Rattle.core_machine.proofs.machine.Machine.may_begin_inner.Goals as goal

pub returns-in-Some : goal.returns-in-Some
returns-in-Some g c =
    let m = c.self.inside in
    let found = rw c.deref.ensures.value at c.in-Some.ensures.lookup in
    rw (← c.self.view_is) (inner_begins_of m.heap m.words.items m.seats.items m.collector.collector c.args.seat c.in-Some.party.now c.args.inner.now found.3.0 found.1 c.may_begin_inner.ensures)

pub returns-in-None : goal.returns-in-None
returns-in-None g c =
    let none = rw c.deref.ensures.value at c.in-None.ensures.lookup in
    rw (← c.self.view_is) (none_begins c.self.inside.seats.items c.args.seat _ none.3)
