use Rattle.std.proofs.Common.{◌≡◌, max, sym, subst, arith}
use Rattle.std.specs.List.{AllZip}
use Rattle.space_plan.specs.plan.Cycles.{IsCyclePlan}
use Rattle.space_plan.specs.plan.Takes.{IsTakenAtAny}
use Rattle.space_plan.specs.plan.Totals.{IsGreatest}
use Rattle.space_plan.proofs.plan_lemmas.Greatest.{IsTakenAtAny-more}
use Rattle.space_plan.proofs.plan_lemmas.MomentLemmas.{zip_push}
use Rattle.space_plan.proofs.planning.ended.EndedCycles.add.Goals as goal

pub returns-clause-tells : goal.returns-clause-tells
returns-clause-tells c = λ heap ends at tells plan section.
    let most : c.max-self.result ≡ max (max c.args.self.now.most_taken c.args.plan.since) c.args.section = omega arith in
    record {
      most_taken = subst (IsGreatest (IsTakenAtAny heap _)) (sym most) (IsTakenAtAny-more heap ends at c.args.self.now.most_taken c.args.plan.since c.args.section plan.since section tells.most_taken);
      cycles = subst (AllZip (IsCyclePlan heap) _) (sym c.in_ok-push.ensures.items) (zip_push (IsCyclePlan heap) ends c.args.self.now.cycles.items at c.args.plan tells.cycles plan);
    }
