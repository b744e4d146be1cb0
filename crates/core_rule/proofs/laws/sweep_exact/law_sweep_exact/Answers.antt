use Rattle.core_rule.proofs.sweep_exact.LastCycle.{each_end_leaves_little, each_last_cycle_empties, each_last_cycle_balances}
use Rattle.core_rule.proofs.reach.ReachLists.{each_reach_is_listed}
use Rattle.core_rule.proofs.sweep_exact.Reserves.{each_reserve_is_small}
use Rattle.core_rule.proofs.sweep_exact.Bringing.{each_seat_brings_little}
use Rattle.core_rule.proofs.runs.KeptRuns.{run_keeps}
use Rattle.core_rule.proofs.laws.sweep_exact.law_sweep_exact.Goals as goal

pub returns-clause-ends : goal.returns-clause-ends
returns-clause-ends c = each_end_leaves_little run_keeps

pub returns-clause-lists : goal.returns-clause-lists
returns-clause-lists c = each_reach_is_listed

pub returns-clause-emptied : goal.returns-clause-emptied
returns-clause-emptied c = each_last_cycle_empties

pub returns-clause-balanced : goal.returns-clause-balanced
returns-clause-balanced c = each_last_cycle_balances

pub returns-clause-reserves : goal.returns-clause-reserves
returns-clause-reserves c = each_reserve_is_small

pub returns-clause-brought : goal.returns-clause-brought
returns-clause-brought c = each_seat_brings_little
