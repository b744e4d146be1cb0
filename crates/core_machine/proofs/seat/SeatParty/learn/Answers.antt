use Rattle.core_machine.proofs.seat_lemmas.StepNeeds.{point_is}
use Rattle.core_machine.proofs.seat.SeatParty.learn.Goals as goal

pub learn_making-requires-clause-limits : goal.learn_making-requires-clause-limits
learn_making-requires-clause-limits g c = c.requires.limits

pub learn_making-requires-clause-number : goal.learn_making-requires-clause-number
learn_making-requires-clause-number g c = c.requires.number

pub learn_making-requires-clause-at_point : goal.learn_making-requires-clause-at_point
learn_making-requires-clause-at_point g c = rw (point_is _ _ _ c.self.view_is c.in-Making.is) at c.requires.fits.at_point

pub learn_access-requires-clause-limits : goal.learn_access-requires-clause-limits
learn_access-requires-clause-limits g c = c.requires.limits

pub learn_access-requires-clause-number : goal.learn_access-requires-clause-number
learn_access-requires-clause-number g c = c.requires.number

pub learn_access-requires-clause-at_point : goal.learn_access-requires-clause-at_point
learn_access-requires-clause-at_point g c = rw (point_is _ _ _ c.self.view_is c.in-Access.is) at c.requires.fits.way_at_point

pub learn_polling-requires-clause-at_point : goal.learn_polling-requires-clause-at_point
learn_polling-requires-clause-at_point g c = rw (point_is _ _ _ c.self.view_is c.in-Polling.is) at c.requires.fits.answer_at_point

pub returns-in-Making-clause-seat : goal.returns-in-Making-clause-seat
returns-in-Making-clause-seat g c = rw (point_is _ _ _ c.self.view_is c.in-Making.is) c.learn_making.ensures.seat

pub returns-in-Local-clause-seat : goal.returns-in-Local-clause-seat
returns-in-Local-clause-seat g c = rw (point_is _ _ _ c.self.view_is c.in-Local.is) c.learn_local.ensures.seat

pub returns-in-Access-clause-seat : goal.returns-in-Access-clause-seat
returns-in-Access-clause-seat g c = rw (point_is _ _ _ c.self.view_is c.in-Access.is) c.learn_access.ensures.seat

pub returns-in-Polling-clause-seat : goal.returns-in-Polling-clause-seat
returns-in-Polling-clause-seat g c = rw (point_is _ _ _ c.self.view_is c.in-Polling.is) c.learn_polling.ensures.seat

pub returns-in-Collecting-clause-seat : goal.returns-in-Collecting-clause-seat
returns-in-Collecting-clause-seat g c = rw (point_is _ _ _ c.self.view_is c.in-Collecting.is) c.learn_collecting.ensures.seat
