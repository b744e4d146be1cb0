use Rattle.std.proofs.Common.{refl, sym, subst}
use Rattle.log_merge.specs.Legal.{ShowsCounts}
use Rattle.log_merge.proofs.PassingLemmas.{Passed-space}
use Rattle.log_merge.proofs.checker.Checker.pass_space.Goals as goal

pub returns-clause-passes : goal.returns-clause-passes
returns-clause-passes c = λ form passed same before.
    Passed-space form c.args.self.now passed c.args.mark before (subst (λ es. ShowsCounts c.args.self.now.heap es c.args.mark) (sym same) (c.if-not-shows_counts.ensures.0 refl))
