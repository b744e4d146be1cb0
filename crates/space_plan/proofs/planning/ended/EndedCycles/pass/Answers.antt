use Rattle.std.proofs.Common.{◌∷◌, ◌++◌, [], refl, sym, subst, arith}
use Rattle.heap_model.specs.declared.entry.Entry.TheVariants.{Ends}
use Rattle.space_plan.specs.plan.Moments.{Moment, ends_of}
use Rattle.space_plan.specs.plan.Walking.{EndedTells}
use Rattle.space_plan.proofs.plan_lemmas.MomentLemmas.{ends_of-no, ends_of-yes, is_no_end}
use Rattle.space_plan.proofs.planning.ended.EndedCycles.pass.Goals as goal

pub returns-in_ok-add-clause-tells : goal.returns-in_ok-add-clause-tells
returns-in_ok-add-clause-tells c = λ history ledger begun ended.
    let heap = c.args.ledger.now.heap in
    let at : Moment = record { before = history; entry = Ends c.in-Ends.cycle c.in-Ends.kept } in
    let added = c.in_ok-add.ensures.tells heap (ends_of history) at ended (c.cycle_plan-plan.ensures.tells history ledger begun) ledger.section in
    subst (λ e. EndedTells heap c.add.new.self (ends_of (history ++ e ∷ []))) (sym c.in-Ends.is)
    (subst (EndedTells heap c.add.new.self) (sym (ends_of-yes history (Ends c.in-Ends.cycle c.in-Ends.kept) refl)) added)

pub returns-in_ok-add-clause-fits : goal.returns-in_ok-add-clause-fits
returns-in_ok-add-clause-fits c = λ n ledger begun few.
    c.in_ok-add.ensures.fits _ few (omega (arith, c.cycle_plan-plan.ensures.since, begun.since)) (omega (arith, ledger.section))

pub returns-in_default-clause-tells : goal.returns-in_default-clause-tells
returns-in_default-clause-tells c = λ history ledger begun ended.
    subst (EndedTells c.args.ledger.now.heap c.args.self.now) (sym (ends_of-no history c.args.entry.now (is_no_end c.args.entry.now c.in_default.not-Ends))) ended
