use Rattle.heap_table.proofs.CollectorHolders.{quiet_turn_is_turned}
use Rattle.heap_table.proofs.collector.CollectorHolder.turn_quietly.Goals as goal

pub returns : goal.returns
returns g c = quiet_turn_is_turned _ _ c.args.step.now _ c.requires.may.due c.requires.quiet c.turn_by.ensures.turned
