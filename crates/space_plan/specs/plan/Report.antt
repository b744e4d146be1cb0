-- What a plan says of a history as a whole.
use Rattle.std.specs.Prelude.{◌≡◌, ◌≤◌, count_by}
use Rattle.std.specs.List.{AllZip}
use Rattle.reply_text.specs.declared.history.History.{History}
use Rattle.space_plan.specs.cycle_turns.CycleTurns.{cycle_most}
use Rattle.space_plan.specs.declared.report.PlanReport.{PlanReport}
use Rattle.space_plan.specs.plan.Cycles.{IsCyclePlan}
use Rattle.space_plan.specs.plan.Moments.{ends_of}
use Rattle.space_plan.specs.plan.Takes.{IsTaken}
use Rattle.space_plan.specs.plan.Totals.{IsGreatest, IsNeeded, IsReached, groups_for, is_full}

-- the report is the plan of the history: its cycles and greatest numbers, and the groups by them, of which enough refuse nothing
pub record IsPlan (history : History) (report : PlanReport) : Type 0 where
  pub cycles : AllZip (IsCyclePlan history.heap) (ends_of history.entries) report.cycles.items
  pub reach : IsGreatest (IsReached history.heap history.entries) report.most_reach
  pub takes : IsGreatest (IsTaken history.heap history.entries) report.most_takes
  pub need : IsGreatest (IsNeeded history.entries) report.most_need
  pub groups : report.groups ≡ groups_for report.most_reach report.most_takes history.heap.seats report.most_need
  pub turns : report.turns ≡ cycle_most history.heap
  pub full : report.full ≡ count_by is_full history.entries
  pub enough : report.groups ≤ history.heap.groups → report.full ≡ 0
