use Rattle.std.proofs.Common.{◌+◌, take, sym, subst, arith}
use Rattle.space_plan.specs.plan.Totals.{IsGreatest, IsNeeded}
use Rattle.space_plan.proofs.plan_lemmas.Greatest.{IsNeeded-more}
use Rattle.space_plan.proofs.planning.needs.most_need.Goals as goal

pub loop-entry-preserved : goal.loop-entry-preserved
loop-entry-preserved c =
    record {
      greatest = subst (IsGreatest (IsNeeded (take (c.loop-entry.entry-index + 1) c.args.entries.now))) (sym c.max-most.ensures)
          (IsNeeded-more c.args.entries.now c.loop-entry.entry-index _ c.loop-entry.most c.need.result c.loop-entry-test.true c.need.ensures.need c.loop-entry.invariant.greatest);
      fits = omega (arith, c.max-most.ensures, c.loop-entry.invariant.fits, c.need.ensures.fits);
    }
