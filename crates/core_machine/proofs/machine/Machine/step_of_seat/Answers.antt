use Rattle.std.proofs.Common.{arith}
use Rattle.core_machine.proofs.machine_lemmas.SeatSteps.{step_is_a_seats, step_is_of_heap, step_heap, step_found, step_word_in_table, party_seat_fits, seat_finds_within_heap, seat_room, seat_step_spends_room, seat_step_leaves_state, seat_step_leaves_machine}
use Rattle.core_machine.proofs.machine.Machine.step_of_seat.Goals as goal

pub perform-found-requires-clause-in_table : goal.perform-found-requires-clause-in_table
perform-found-requires-clause-in_table g c = step_word_in_table _ _ _ _ _ _ _ c.args.seat _ c.self.view_is c.requires.due c.self.invariant

pub learn-requires-clause-fits : goal.learn-requires-clause-fits
learn-requires-clause-fits g c = party_seat_fits _ _ _ _ _ _ _ c.args.seat _ c.self.view_is c.requires.due _ c.index_mut-party.ensures.value c.self.invariant

pub learn-requires-clause-found : goal.learn-requires-clause-found
learn-requires-clause-found g c =
    seat_finds_within_heap _ _ _ _ _ _ _ c.args.seat _ c.self.view_is c.requires.due _ _ c.index_mut-party.ensures.value c.self.invariant c.perform-found.ensures.found

pub invariant_of-self : goal.invariant_of-self
invariant_of-self g c =
    seat_step_leaves_machine _ _ _ _ _ _ _ c.args.seat _ c.self.view_is c.requires.due _ c.learn.new.self _ _
    c.index_mut-party.ensures.value c.perform-found.ensures.found c.perform-found.ensures.words c.learn.ensures.seat c.self.invariant

pub returns-clause-state : goal.returns-clause-state
returns-clause-state g c =
    seat_step_leaves_state _ _ _ _ _ _ _ c.args.seat _ c.self.view_is c.requires.due _ c.learn.new.self _ _
    c.index_mut-party.ensures.value c.perform-found.ensures.found c.perform-found.ensures.words c.learn.ensures.seat

pub returns-clause-spent : goal.returns-clause-spent
returns-clause-spent g c =
    seat_step_spends_room _ _ _ _ _ _ _ c.args.seat _ c.self.view_is c.requires.due _ c.learn.new.self _ c.index_mut-party.ensures.value c.learn.ensures.forgotten c.learn.ensures.spare

pub learn-requires-clause-spare : goal.learn-requires-clause-spare
learn-requires-clause-spare g c = seat_room _ _ _ _ _ _ _ c.args.seat _ c.self.view_is c.requires.due _ c.index_mut-party.ensures.value c.requires.room

pub perform-found-requires-clause-limits : goal.perform-found-requires-clause-limits
perform-found-requires-clause-limits g c = c.self.invariant.limits

pub index_mut-party-requires : goal.index_mut-party-requires
index_mut-party-requires g c = omega (arith, step_is_a_seats _ _ _ _ _ _ _ c.args.seat _ c.self.view_is c.requires.due, c.self.inside.seats.ok.0)

pub learn-requires-clause-limits : goal.learn-requires-clause-limits
learn-requires-clause-limits g c = c.self.invariant.limits

pub learn-requires-clause-number : goal.learn-requires-clause-number
learn-requires-clause-number g c = step_is_of_heap _ _ _ _ _ _ _ c.args.seat _ c.self.view_is c.requires.due c.self.invariant

pub returns-clause-heap : goal.returns-clause-heap
returns-clause-heap g c = step_heap _ _ _ _ _ _ _ c.args.seat _ c.self.view_is c.requires.due

pub returns-clause-found : goal.returns-clause-found
returns-clause-found g c = step_found _ _ _ _ _ _ _ c.args.seat _ c.self.view_is c.requires.due _ c.perform-found.ensures.found
