use Rattle.std.proofs.Common.{◌<◌, ◌^◌, take}
use Rattle.space_plan.specs.plan.Totals.{IsGreatest, IsNeeded}
use Rattle.space_plan.proofs.planning.needs.most_need.Given as goal

abbrev pub invariant-loop-entry : goal.invariant-loop-entry
invariant-loop-entry l = record {
  greatest : IsGreatest (IsNeeded (take l.entry-index l.entries)) l.most;
  fits : l.most < 2 ^ 32;
}
