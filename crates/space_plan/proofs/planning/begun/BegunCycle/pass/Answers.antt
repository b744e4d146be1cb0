use Rattle.std.proofs.Common.{◌+◌, sym, ap, ◌∙◌, arith}
use Rattle.heap_model.specs.declared.account.effect.Effect.{Effect}
use Rattle.space_plan.proofs.plan_lemmas.CycleSums.{BegunTells-more}
use Rattle.space_plan.proofs.planning.begun.BegunCycle.pass.Goals as goal

pub returns-in_ok-self-clause-fits : goal.returns-in_ok-self-clause-fits
returns-in_ok-self-clause-fits c = λ n counted ledger begun. c.in_ok-self.ensures.fits (n + 1) counted ledger (omega (arith, begun.most_reach))

pub returns-else-begins_cycle-clause-tells : goal.returns-else-begins_cycle-clause-tells
returns-else-begins_cycle-clause-tells c = λ history begun ledger same account.
    BegunTells-more c.args.ledger.now.heap history c.args.entry.now c.args.self.now (sym c.begins_cycle.ensures ∙ c.if-begins_cycle.false) (ap (λ (e : Effect). c.args.self.now.since + e.taken) c.of.ensures.exact) begun
