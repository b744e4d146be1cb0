use Rattle.std.proofs.Common.{arith}
use Rattle.std.proofs.lemmas.Grind.{common_steps}
use Rattle.heap_model.proofs.account.Account.may_begin.Goals as goal

pub returns-then-phase-ne-REST : goal.returns-then-phase-ne-REST
returns-then-phase-ne-REST c history t =
    let h = c.all_answered.ensures history t in
    (λ w. (grind (arith, common_steps), grind (arith, common_steps), h.0 w), λ k. h.1 k.2)
