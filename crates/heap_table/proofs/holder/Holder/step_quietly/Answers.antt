use Rattle.heap_table.proofs.SeatHolders.{quiet_step_is_stepped}
use Rattle.heap_table.proofs.holder.Holder.step_quietly.Goals as goal

pub returns : goal.returns
returns g c = quiet_step_is_stepped _ _ c.args.step.now _ c.requires.may.due c.requires.quiet c.step.ensures.stepped
