use Rattle.std.proofs.Common.{arith, ◌*◌, ◌+◌}
use Rattle.std.proofs.lemmas.Grind.{common_steps}
use Rattle.heap_model.proofs.account.Account.began_since.Goals as goal

pub returns-then-then-begin : goal.returns-then-then-begin
returns-then-then-begin c history t =
    let h = (t.seats c.args.seat c.requires).began (7 * c.args.cycle + 1) in grind (arith, common_steps, h.0, h.1)

pub returns-else-then-begin : goal.returns-else-then-begin
returns-else-then-begin c history t =
    let h = (t.seats c.args.seat c.requires).began (7 * c.args.cycle + 1) in grind (arith, common_steps, h.0, h.1)
