use Rattle.std.proofs.Common.{sym, ap, ◌∙◌, arith}
use Rattle.heap_model.specs.declared.account.effect.Effect.{Effect}
use Rattle.space_plan.proofs.plan_lemmas.CycleSums.{taken_since_end-end, taken_since_end-more}
use Rattle.space_plan.proofs.planning.ledger.section_after.Goals as goal

pub returns-then-is_end-clause-tells : goal.returns-then-is_end-clause-tells
returns-then-is_end-clause-tells c = λ history is. sym (taken_since_end-end history c.args.entry.now (sym c.is_end.ensures ∙ c.if-is_end.true))

pub returns-clause-tells : goal.returns-clause-tells
returns-clause-tells c = λ history is.
    omega (arith, is, ap (λ (e : Effect). e.taken) c.of.ensures.exact, taken_since_end-more history c.args.entry.now (sym c.is_end.ensures ∙ c.if-is_end.false))
