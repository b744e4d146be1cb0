use Rattle.heap_model.specs.declared.calls.collect.Inner.TheVariants.{Answer, Behind}
use Rattle.heap_runs.proofs.LooksOn.{looks_around_by_nothing, looks_around_by_room, looks_around_by_inner}
use Rattle.heap_runs.proofs.seat_collect.ask.Goals as goal

pub returns-in_default-clause-around : goal.returns-in_default-clause-around
returns-in_default-clause-around c = looks_around_by_nothing c.args.seat.now

pub returns-in_err-room-clause-around : goal.returns-in_err-room-clause-around
returns-in_err-room-clause-around c = looks_around_by_room c.args.seat.now c.room.new.self c.room.ensures.stays

pub returns-then-other-number-clause-around : goal.returns-then-other-number-clause-around
returns-then-other-number-clause-around c = looks_around_by_inner c.args.seat.now c.room.new.self c.answer.new.self Answer tt c.room.ensures.stays c.answer.ensures.made

pub returns-then-not-may_make-clause-around : goal.returns-then-not-may_make-clause-around
returns-then-not-may_make-clause-around c = looks_around_by_room c.args.seat.now c.room.new.self c.room.ensures.stays

pub returns-in_default-behind-clause-around : goal.returns-in_default-behind-clause-around
returns-in_default-behind-clause-around c = looks_around_by_inner c.args.seat.now c.room.new.self c.behind.new.self (Behind c.in-Waits.other) tt c.room.ensures.stays c.behind.ensures.made

pub returns-clause-around : goal.returns-clause-around
returns-clause-around c = looks_around_by_inner c.args.seat.now c.room.new.self c.behind.new.self (Behind c.in-Waits.other) tt c.room.ensures.stays c.behind.ensures.made
