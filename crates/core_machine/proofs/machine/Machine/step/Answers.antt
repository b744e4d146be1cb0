use Rattle.std.proofs.Common.{arith}
use Rattle.core_machine.proofs.machine_lemmas.Stepping.{seat_event, seat_can}
use Rattle.core_machine.proofs.machine_lemmas.PartySteps.{seat_due, party_is_last, last_event, last_due}
use Rattle.core_machine.proofs.machine.Machine.step.Goals as goal

pub step_of_seat-requires-clause-due : goal.step_of_seat-requires-clause-due
step_of_seat-requires-clause-due g c =
    seat_due _ _ _ _ _ _ _ c.args.party c.self.view_is c.args.step.now (omega (arith, c.if-party-len.true, c.len.ensures)) c.requires.due

pub step_of_seat-requires-clause-room : goal.step_of_seat-requires-clause-room
step_of_seat-requires-clause-room g c = c.requires.room

pub turn-requires-clause-due : goal.turn-requires-clause-due
turn-requires-clause-due g c =
    last_due _ _ _ _ _ _ _ c.args.party c.self.view_is (omega (arith, c.if-party-len.false, c.len.ensures)) c.requires.party c.args.step.now c.requires.due

pub turn-requires-clause-room : goal.turn-requires-clause-room
turn-requires-clause-room g c =
    rw (← party_is_last _ _ _ _ _ _ _ c.args.party c.self.view_is (omega (arith, c.if-party-len.false, c.len.ensures)) c.requires.party) c.requires.room

pub returns-then-party-len-clause-can : goal.returns-then-party-len-clause-can
returns-then-party-len-clause-can g c =
    seat_can _ _ _ _ _ _ _ c.args.party _ c.self.view_is (omega (arith, c.if-party-len.true, c.len.ensures)) c.requires.due

pub returns-then-party-len-clause-heap : goal.returns-then-party-len-clause-heap
returns-then-party-len-clause-heap g c = c.step_of_seat.ensures.heap

pub returns-then-party-len-clause-state : goal.returns-then-party-len-clause-state
returns-then-party-len-clause-state g c =
    rw (seat_event _ _ _ _ _ _ _ c.args.party c.self.view_is (omega (arith, c.if-party-len.true, c.len.ensures))) c.step_of_seat.ensures.state

pub returns-then-party-len-clause-found : goal.returns-then-party-len-clause-found
returns-then-party-len-clause-found g c = c.step_of_seat.ensures.found

pub returns-then-party-len-clause-spent : goal.returns-then-party-len-clause-spent
returns-then-party-len-clause-spent g c = c.step_of_seat.ensures.spent

pub returns-else-party-len-clause-can : goal.returns-else-party-len-clause-can
returns-else-party-len-clause-can g c =
    rw (last_event _ _ _ _ _ _ _ c.args.party c.self.view_is (omega (arith, c.if-party-len.false, c.len.ensures)) c.requires.party) c.turn.ensures.can

pub returns-else-party-len-clause-heap : goal.returns-else-party-len-clause-heap
returns-else-party-len-clause-heap g c = c.turn.ensures.heap

pub returns-else-party-len-clause-state : goal.returns-else-party-len-clause-state
returns-else-party-len-clause-state g c =
    rw (last_event _ _ _ _ _ _ _ c.args.party c.self.view_is (omega (arith, c.if-party-len.false, c.len.ensures)) c.requires.party) c.turn.ensures.state

pub returns-else-party-len-clause-found : goal.returns-else-party-len-clause-found
returns-else-party-len-clause-found g c = c.turn.ensures.found

pub returns-else-party-len-clause-spent : goal.returns-else-party-len-clause-spent
returns-else-party-len-clause-spent g c =
    rw (party_is_last _ _ _ _ _ _ _ c.args.party c.self.view_is (omega (arith, c.if-party-len.false, c.len.ensures)) c.requires.party) c.turn.ensures.spent
