-- Each event keeps the rule, of whatever kind it is, and so does each run from the opening.
use Rattle.core_machine.proofs.machine_lemmas.Runs.{event_leaves_machine}
use Rattle.core_rule.proofs.Terms.{EachEventKeeps, EveryRunKeeps}
use Rattle.core_rule.proofs.runs.OpeningStands.{opening_stands}
use Rattle.core_rule.proofs.runs.Runs.{each_event_keeps, every_run_keeps}
use Rattle.core_rule.proofs.steps.Steps.{each_step_keeps, each_begin_keeps, each_inner_keeps, each_turn_keeps}

pub event_keeps : EachEventKeeps
event_keeps = each_event_keeps event_leaves_machine each_step_keeps each_begin_keeps each_inner_keeps each_turn_keeps

pub run_keeps : EveryRunKeeps
run_keeps = every_run_keeps event_keeps opening_stands
