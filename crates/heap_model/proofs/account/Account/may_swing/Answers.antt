use Rattle.std.proofs.Common.{◌∙◌, sym, ap, subst, arith, Contains}
use Rattle.std.proofs.lemmas.Bool.{both_ways, ne_eqb, not-true, not_from_false, false_from_ne_true}
use Rattle.heap_model.specs.account.Sweep.{IsArray}
use Rattle.heap_model.specs.account.Books.{Books}
use Rattle.heap_model.proofs.account.Account.may_swing.Goals as goal
use Rattle.heap_model.proofs.account.Account.may_swing.Goals.{then-self-eq-COPYING, else-self-eq-COPYING}

pub returns-then-is_array : goal.returns-then-is_array
returns-then-is_array c history t same =
    let swung = t.swung c.args.id in
    elim c.if-self-eq-COPYING.branch [
      | then-self-eq-COPYING w ↦ (
        λ fresh. (
          omega (arith, t.all.phases, w.if-self-eq-COPYING.true, ap (λ (b : Books). b.all.phases) c.self.view_is),
          subst (λ g. IsArray g c.args.id) same (w.is_array.ensures.0 (sym w.value-is ∙ c.if-is_array.true)),
          λ number. both_ways c.has.result (not-true c.has.result fresh) (c.has.ensures.1 (subst (λ (b : Books). Contains b.swung c.args.id) (sym c.self.view_is) (swung.0 number))),
        ),
        λ k. not_from_false c.has.result (false_from_ne_true c.has.result (λ has. k.2 (swung.1 (subst (λ (b : Books). Contains b.swung c.args.id) c.self.view_is (c.has.ensures.0 has))))),
      )
      | else-self-eq-COPYING w ↦ absurd (both_ways c.if-self-eq-COPYING.value (w.value-is ∙ ne_eqb _ _ w.if-self-eq-COPYING.false) c.if-is_array.true)
    ]
