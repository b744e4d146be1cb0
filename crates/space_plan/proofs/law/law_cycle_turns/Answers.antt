use Rattle.space_plan.proofs.cycle_turns.Runs.{each_event_leaves_fewer, cycle_turns}
use Rattle.space_plan.proofs.cycle_turns.Turns.{each_end_leaves_most}
use Rattle.space_plan.proofs.law.law_cycle_turns.Goals as goal

pub returns-clause-most : goal.returns-clause-most
returns-clause-most c = cycle_turns

pub returns-clause-fewer : goal.returns-clause-fewer
returns-clause-fewer c = each_event_leaves_fewer

pub returns-clause-ends : goal.returns-clause-ends
returns-clause-ends c = each_end_leaves_most
