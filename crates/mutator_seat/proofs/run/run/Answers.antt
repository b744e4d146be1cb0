use Rattle.std.proofs.Common.{sym, ◌∙◌}
use Rattle.mutator_seat.proofs.Running.{while_running_at_begin, while_running_after_step, running_has_room, idle_when_none_due}
use Rattle.mutator_seat.proofs.run.run.Goals as goal

pub loop-step-init : goal.loop-step-init
loop-step-init g c = while_running_at_begin c.step_laws.ensures.none c.args.holder.now c.requires.sound c.requires.room

pub step-requires-clause-room : goal.step-requires-clause-room
step-requires-clause-room g c = running_has_room c.args.holder.now c.loop-step.holder c.loop-step.invariant

pub loop-step-preserved : goal.loop-step-preserved
loop-step-preserved g c = (while_running_after_step c.step_laws.ensures.one c.step_laws.ensures.joined c.step_laws.ensures.nearer c.step_laws.ensures.sound c.args.holder.now c.loop-step.holder c.step.new.self c.in-Some.step c.step.result c.loop-step.invariant (sym c.due.ensures ∙ c.in-Some.is) c.step.ensures.stepped c.step.ensures.told).0

pub loop-step-smaller : goal.loop-step-smaller
loop-step-smaller g c = (while_running_after_step c.step_laws.ensures.one c.step_laws.ensures.joined c.step_laws.ensures.nearer c.step_laws.ensures.sound c.args.holder.now c.loop-step.holder c.step.new.self c.in-Some.step c.step.result c.loop-step.invariant (sym c.due.ensures ∙ c.in-Some.is) c.step.ensures.stepped c.step.ensures.told).1

pub returns-clause-steps : goal.returns-clause-steps
returns-clause-steps g c = (c.loop-step.invariant.made, c.loop-step.invariant.makes)

pub returns-clause-over : goal.returns-clause-over
returns-clause-over g c = idle_when_none_due c.loop-step.holder c.due.result c.due.ensures c.in_default.not-Some
