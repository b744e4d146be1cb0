-- How a plan is told.
use Rattle.std.specs.Prelude.{ℕ, List, [], ◌∷◌, ◌++◌, codes, decimal, map}
use Rattle.script_text.specs.declared.preamble.Preamble.{Preamble}
use Rattle.script_text.specs.Text.{sentence}
use Rattle.script_text.specs.Words.{heap_line}
use Rattle.space_plan.specs.declared.report.CyclePlan.{CyclePlan}
use Rattle.space_plan.specs.declared.report.PlanReport.{PlanReport}

-- what a cycle found when it began, and what it may leave
abbrev pub found_words : CyclePlan → List (List ℕ)
found_words plan = codes "reach" ∷ decimal plan.reach ∷ codes "since" ∷ decimal plan.since ∷ codes "bound" ∷ decimal plan.bound ∷ []

-- what it left
abbrev pub left_words : CyclePlan → List (List ℕ)
left_words plan = codes "used" ∷ decimal plan.used ∷ codes "kept" ∷ decimal plan.kept ∷ []

-- the line of a cycle
abbrev pub cycle_line : CyclePlan → List ℕ
cycle_line plan = sentence (codes "cycle" ∷ decimal plan.cycle ∷ found_words plan ++ left_words plan)

-- the line of the greatest numbers of fragments: reached, taken and needed
abbrev pub most_line : PlanReport → List ℕ
most_line report = sentence (codes "most" ∷ codes "reach" ∷ decimal report.most_reach ∷ codes "takes" ∷ decimal report.most_takes ∷ codes "need" ∷ decimal report.most_need ∷ [])

-- the line of the groups that suffice, and of the most turns of a cycle
abbrev pub sizes_line : PlanReport → List ℕ
sizes_line report = sentence (codes "groups" ∷ decimal report.groups ∷ codes "turns" ∷ decimal report.turns ∷ [])

-- the line of how many allocations were refused for want of fragments
abbrev pub full_line : PlanReport → List ℕ
full_line report = sentence (codes "full" ∷ decimal report.full ∷ [])

-- the lines of totals
abbrev pub total_lines : PlanReport → List (List ℕ)
total_lines report = most_line report ∷ sizes_line report ∷ full_line report ∷ []

-- the lines of a plan, with the heap line of the history that it is of
abbrev pub plan_lines : Preamble → PlanReport → List (List ℕ)
plan_lines preamble report = codes "plan 1" ∷ heap_line preamble ∷ map cycle_line report.cycles.items ++ total_lines report
