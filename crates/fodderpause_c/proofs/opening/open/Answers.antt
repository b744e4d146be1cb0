use Rattle.std.proofs.Common.{sym, ◌∙◌}
use Rattle.fodderpause_c.proofs.Opened.{has_box_each}
use Rattle.fodderpause_c.proofs.opening.open.Goals as goal

pub put_all-requires-clause-each : goal.put_all-requires-clause-each
put_all-requires-clause-each c = has_box_each c.args.heap c.in-Ok.made.collector.value c.in-Ok.made.seats.items c.in-Ok.ensures ∙ sym c.requires.each
