use Rattle.core_machine.proofs.machine_lemmas.Parties.{begins_of, none_begins}
use Rattle.core_machine.proofs.machine.Machine.may_begin.Goals as goal

pub returns-in-Some : goal.returns-in-Some
returns-in-Some g c =
    let m = c.self.inside in
    let found = rw c.deref.ensures.value at c.in-Some.ensures.lookup in
    rw (← c.self.view_is) (begins_of m.words.items m.seats.items m.collector.collector c.args.seat c.in-Some.party.now c.args.command.now found.3.0 found.1 c.may_begin.ensures)

pub returns-in-None : goal.returns-in-None
returns-in-None g c =
    let none = rw c.deref.ensures.value at c.in-None.ensures.lookup in
    rw (← c.self.view_is) (none_begins c.self.inside.seats.items c.args.seat _ none.3)
