use Rattle.std.proofs.Common.{◌∙◌}
use Rattle.core_machine.proofs.machine_lemmas.PartyRoom.{spare_is_partys, spare_is_collectors}
use Rattle.core_machine.proofs.machine.Machine.spare.Goals as goal

pub returns-in-Some : goal.returns-in-Some
returns-in-Some g c =
    let found = rw c.deref.ensures.value at c.in-Some.ensures.lookup in
    c.spare.ensures ∙ spare_is_partys _ _ _ _ _ _ _ c.self.view_is c.args.party c.in-Some.seat.now found.3.0 found.1

pub returns-in-None : goal.returns-in-None
returns-in-None g c =
    let none = rw c.deref.ensures.value at c.in-None.ensures.lookup in
    c.spare-in-None.ensures.spare ∙ spare_is_collectors _ _ _ _ _ _ _ c.self.view_is c.args.party none.3 c.requires
