use Rattle.std.proofs.Common.{arith}
use Rattle.std.proofs.lemmas.Grind.{common_steps}
use Rattle.heap_model.proofs.account.Account.was_behind.Goals as goal

pub returns-then-first_behind-phase : goal.returns-then-first_behind-phase
returns-then-first_behind-phase c history t =
    let h = (t.seats c.args.seat c.requires.seat).behind c.args.other c.args.answered c.requires.other c.requires.not_own in grind (arith, common_steps, h.0, h.1)

pub returns-else-first_behind-phase : goal.returns-else-first_behind-phase
returns-else-first_behind-phase c history t =
    let h = (t.seats c.args.seat c.requires.seat).behind c.args.other c.args.answered c.requires.other c.requires.not_own in grind (arith, common_steps, h.0, h.1)
