use Rattle.std.proofs.Common.{◌≤◌, [], true, sym, ◌∙◌, ap, subst}
use Rattle.std.specs.Prelude.{count_by}
use Rattle.heap_model.specs.account.Account.{KeepsSpaceAfter}
use Rattle.log_merge.specs.Legal.{AreLegal}
use Rattle.space_plan.specs.plan.Takes.{IsTaken}
use Rattle.space_plan.specs.plan.Totals.{IsGreatest, IsNeeded, is_full}
use Rattle.space_plan.proofs.plan_lemmas.Enough.{enough_refuses_none}
use Rattle.space_plan.proofs.plan_lemmas.WalkLemmas.{HasFound-passed}
use Rattle.space_plan.proofs.planning.plan.Goals as goal

pub returns-clause-plan : goal.returns-clause-plan
returns-clause-plan c =
    let history = c.args.history.now in
    let walk = c.in_ok-walk.walk in
    let same = c.as_slice-entries.ensures in
    let found = HasFound-passed walk history.heap c.as_slice-entries.result.now history.entries c.in_ok-walk.ensures.heap same c.in_ok-walk.ensures.passed in
    let takes : IsGreatest (IsTaken history.heap history.entries) c.max-most_takes.result = subst (IsGreatest (IsTaken history.heap history.entries)) (sym c.max-most_takes.ensures) found.takes in
    let need : IsGreatest (IsNeeded history.entries) c.most_need-most_need.result = subst (λ es. IsGreatest (IsNeeded es) c.most_need-most_need.result) same c.most_need-most_need.ensures.greatest in
    let kept : KeepsSpaceAfter history.heap true [] history.entries = (subst (λ f. AreLegal f history.heap history.entries) c.requires.play c.in_ok-check.ensures.legal.entries).space in
    record {
      cycles = found.cycles;
      reach = found.reach;
      takes = takes;
      need = need;
      groups = c.groups_for.ensures;
      turns = c.cycle_most.ensures;
      full = c.refused.ensures ∙ ap (count_by is_full) same;
      enough = λ few. c.refused.ensures ∙ ap (count_by is_full) same ∙
          enough_refuses_none history.heap history.entries walk.ended.cycles.items walk.begun.most_reach c.max-most_takes.result c.most_need-most_need.result kept found.cycles found.reach takes need
          (subst (λ n. n ≤ history.heap.groups) c.groups_for.ensures few);
    }
