use Rattle.std.proofs.Common.{◌+◌, length, take, refl, sym, ap, ◌∙◌, arith}
use Rattle.std.proofs.lemmas.List.{take_all}
use Rattle.std.proofs.lemmas.List.Sums.{sum_by_more}
use Rattle.heap_model.specs.graph.Sizes.{fragments_at, fragments_of_all}
use Rattle.space_plan.proofs.plan_lemmas.ReachedIds.{reach_is_short}
use Rattle.space_plan.proofs.planning.reach.reached_frags.Goals as goal

pub loop-id-init : goal.loop-id-init
loop-id-init c = record {
  counted = refl;
  fits = omega arith;
  short = omega (arith, ap length c.deref-id-items.ensures.value, reach_is_short c.args.graph.now c.in_ok-ids.ids.items c.in_ok-ids.ensures);
}

pub overflow_add-sum : goal.overflow_add-sum
overflow_add-sum c = omega (arith, c.loop-id.invariant.fits, c.loop-id.invariant.short, c.requires, c.loop-id-test.true, c.from-sum.ensures, c.frags.type_inv)

pub loop-id-preserved : goal.loop-id-preserved
loop-id-preserved c =
    let g = c.args.graph.now in
    let ids = c.deref-id-items.result.now in
    let i = c.loop-id.id-index in
    record {
      counted = ap (λ n. n + c.from-sum.result) c.loop-id.invariant.counted ∙ ap (λ n. fragments_of_all g (take i ids) + n) (c.from-sum.ensures ∙ c.frags.ensures)
          ∙ sym (sum_by_more (fragments_at g) ids i _ c.loop-id-test.true);
      fits = omega (arith, c.loop-id.invariant.fits, c.from-sum.ensures, c.frags.type_inv);
      short = c.loop-id.invariant.short;
    }

pub returns-clause-reach : goal.returns-clause-reach
returns-clause-reach c = record {
  ids = c.in_ok-ids.ids.items;
  reached = c.in_ok-ids.ensures;
  counted = c.loop-id.invariant.counted ∙ ap (fragments_of_all c.args.graph.now) (take_all c.loop-id.id-index c.deref-id-items.result.now c.loop-id-test.false ∙ c.deref-id-items.ensures.value);
}

pub returns-clause-fits : goal.returns-clause-fits
returns-clause-fits c = omega (arith, c.loop-id.invariant.fits, c.loop-id.invariant.short, c.loop-id.auto.id-index-end)
