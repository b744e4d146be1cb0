use Rattle.std.proofs.Common.{arith}
use Rattle.std.proofs.lemmas.Grind.{common_steps}
use Rattle.heap_model.proofs.account.Account.has_ended.Goals as goal

pub returns : goal.returns
returns c history t = let h = t.ended c.args.cycle in grind (arith, common_steps, h.0, h.1)
