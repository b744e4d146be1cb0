use Rattle.core_machine.proofs.machine_lemmas.Stepping.{shown_before}
use Rattle.core_machine.proofs.machine_lemmas.PartyRoom.{collectors_shown}
use Rattle.core_machine.proofs.machine.Machine.recent.Goals as goal

pub returns-in-Some-clause-recent : goal.returns-in-Some-clause-recent
returns-in-Some-clause-recent g c =
    let found = rw c.deref.ensures.value at c.in-Some.ensures.lookup in
    (shown_before _ _ _ _ _ _ c.args.party _ c.in-Some.seat.now found.3.0 found.1 _ _ c.self.view_is c.recent.ensures.recent c.recent.ensures.within).0

pub returns-in-Some-clause-within : goal.returns-in-Some-clause-within
returns-in-Some-clause-within g c =
    let found = rw c.deref.ensures.value at c.in-Some.ensures.lookup in
    (shown_before _ _ _ _ _ _ c.args.party _ c.in-Some.seat.now found.3.0 found.1 _ _ c.self.view_is c.recent.ensures.recent c.recent.ensures.within).1

pub returns-in-None-clause-recent : goal.returns-in-None-clause-recent
returns-in-None-clause-recent g c =
    let none = rw c.deref.ensures.value at c.in-None.ensures.lookup in
    (collectors_shown _ _ _ _ _ _ _ c.self.view_is c.args.party _ none.3 c.requires c.recent-in-None.ensures.recent c.recent-in-None.ensures.within).0

pub returns-in-None-clause-within : goal.returns-in-None-clause-within
returns-in-None-clause-within g c =
    let none = rw c.deref.ensures.value at c.in-None.ensures.lookup in
    (collectors_shown _ _ _ _ _ _ _ c.self.view_is c.args.party _ none.3 c.requires c.recent-in-None.ensures.recent c.recent-in-None.ensures.within).1
