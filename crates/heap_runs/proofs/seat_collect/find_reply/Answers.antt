use Rattle.heap_runs.proofs.LooksOn.{looks_around_by_nothing, looks_around_in_turn, is_present_still}
use Rattle.heap_runs.proofs.seat_collect.find_reply.Goals as goal

pub loop-init : goal.loop-init
loop-init g c = looks_around_by_nothing c.args.seat.now

pub find_out-requires : goal.find_out-requires
find_out-requires g c = record { present = is_present_still c.args.seat.now c.loop.seat c.loop.invariant.same c.requires.present }

pub returns-in_err-found-clause-around : goal.returns-in_err-found-clause-around
returns-in_err-found-clause-around g c = looks_around_in_turn c.args.seat.now c.loop.seat c.find_out.new.seat c.loop.invariant c.find_out.ensures.around

pub returns-in-Some-reply_to-clause-around : goal.returns-in-Some-reply_to-clause-around
returns-in-Some-reply_to-clause-around g c = looks_around_in_turn c.args.seat.now c.loop.seat c.find_out.new.seat c.loop.invariant c.find_out.ensures.around

pub loop-preserved-then-is_some : goal.loop-preserved-then-is_some
loop-preserved-then-is_some g c = looks_around_in_turn c.args.seat.now c.loop.seat c.find_out.new.seat c.loop.invariant c.find_out.ensures.around

pub loop-preserved : goal.loop-preserved
loop-preserved g c = looks_around_in_turn c.args.seat.now c.loop.seat c.find_out.new.seat c.loop.invariant c.find_out.ensures.around
