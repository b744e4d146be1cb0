use Rattle.std.proofs.Common.{arith}
use Rattle.std.proofs.lemmas.Grind.{common_steps}
use Rattle.heap_model.proofs.account.Account.turn_shows.Goals as goal

pub returns-in-Cycle : goal.returns-in-Cycle
returns-in-Cycle c history t = let h = t.just_ended c.in-Cycle.cycle in grind (arith, common_steps, h.0, h.1)
