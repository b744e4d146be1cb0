use Rattle.std.proofs.Common.{◌≡◌, ◌++◌, map, take}
use Rattle.script_text.specs.Text.{text_of}
use Rattle.space_plan.specs.Text.{cycle_line}
use Rattle.space_plan.proofs.text.push_cycles.Given as goal

abbrev pub invariant-loop-plan : goal.invariant-loop-plan
invariant-loop-plan l = l.text.items ≡ l.initial.text.items ++ text_of (map cycle_line (take l.plan-index l.cycles))
