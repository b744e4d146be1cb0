use Rattle.core_rule.proofs.runs.Offsets.{each_offset_is_within, each_grant_is_placed, each_copy_fits}
use Rattle.core_rule.proofs.runs.KeptRuns.{run_keeps}
use Rattle.core_rule.proofs.laws.spine_offset.law_spine_offset.Goals as goal

pub returns-clause-offset : goal.returns-clause-offset
returns-clause-offset c = each_offset_is_within run_keeps

pub returns-clause-placed : goal.returns-clause-placed
returns-clause-placed c = each_grant_is_placed

pub returns-clause-fits : goal.returns-clause-fits
returns-clause-fits c = each_copy_fits
