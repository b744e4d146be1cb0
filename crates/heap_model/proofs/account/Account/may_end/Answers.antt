use Rattle.std.proofs.Common.{sym, ap, ◌∙◌, arith, rules}
use Rattle.heap_model.specs.account.Books.{Books}
use Rattle.heap_model.specs.account.Cycles.{IsThroughCycle}
use Rattle.heap_model.proofs.account.Account.may_end.Goals as goal

pub returns-clause-ends : goal.returns-clause-ends
returns-clause-ends c history t same =
    let through : IsThroughCycle c.args.self.now.heap history c.args.cycle =
    (sym t.all.phases ∙ sym (ap (λ (b : Books). b.all.phases) c.self.view_is) ∙ omega arith, (c.all_answered.ensures history t).0 (search rules)) in
    let little = c.leaves_little.ensures.little history t same in
    (λ w. (through, little.0 w), λ ends. little.1 ends.1)
