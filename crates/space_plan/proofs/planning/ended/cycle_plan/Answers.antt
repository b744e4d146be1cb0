use Rattle.std.proofs.Common.{refl, arith}
use Rattle.space_plan.proofs.plan_lemmas.CycleSums.{bound_is_sum}
use Rattle.space_plan.proofs.planning.ended.cycle_plan.Goals as goal

pub returns-clause-tells : goal.returns-clause-tells
returns-clause-tells c = λ history ledger begun. record {
  ends = refl;
  reach = begun.reach;
  since = begun.since;
  bound = omega (arith, bound_is_sum c.args.ledger.now.heap begun.reach.ids history, begun.reach.counted, begun.reserves, begun.since);
  used = c.used.ensures history ledger;
}
