use Rattle.heap_model.specs.declared.calls.collect.Inner.TheVariants.{Look}
use Rattle.heap_runs.proofs.LooksOn.{looks_around_by_room, looks_around_by_inner, looks_around_in_turn}
use Rattle.heap_runs.proofs.seat_collect.find_out.Goals as goal

pub returns-in_err-room-clause-around : goal.returns-in_err-room-clause-around
returns-in_err-room-clause-around c = looks_around_in_turn c.args.seat.now c.ask.new.seat c.room.new.self c.ask.ensures.around (looks_around_by_room c.ask.new.seat c.room.new.self c.room.ensures.stays)

pub returns-clause-around : goal.returns-clause-around
returns-clause-around c =
    looks_around_in_turn c.args.seat.now c.ask.new.seat c.look.new.self c.ask.ensures.around (looks_around_by_inner c.ask.new.seat c.room.new.self c.look.new.self Look tt c.room.ensures.stays c.look.ensures.made)
