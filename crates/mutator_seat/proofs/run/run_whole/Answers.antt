use Rattle.std.proofs.Common.{◌++◌}
use Rattle.mutator_seat.specs.Calls.{begun}
use Rattle.mutator_seat.proofs.run.run_whole.Goals as goal

pub run-requires-clause-sound : goal.run-requires-clause-sound
run-requires-clause-sound g c = c.party.ensures.sound

pub run-requires-clause-room : goal.run-requires-clause-room
run-requires-clause-room g c = c.step_laws.ensures.room (begun c.args.holder.now c.args.command.now) c.start.new.self c.start.ensures.steps.0 c.requires.sound c.start.ensures.steps.1 c.requires.room

pub returns-clause-steps : goal.returns-clause-steps
returns-clause-steps g c =
    let one = c.start.ensures.steps in
    let two = c.run.ensures.steps in
    (one.0 ++ two.0, c.step_laws.ensures.joined (begun c.args.holder.now c.args.command.now) c.start.new.self c.run.new.holder one.0 two.0 one.1 two.1)
