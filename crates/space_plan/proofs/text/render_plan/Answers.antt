use Rattle.std.proofs.Common.{◌≡◌, ◌∷◌, ◌++◌, List, codes, map, subst}
use Rattle.script_text.specs.Text.{text_of}
use Rattle.script_text.specs.Words.{heap_line}
use Rattle.space_plan.specs.declared.report.CyclePlan.{CyclePlan}
use Rattle.space_plan.specs.Text.{cycle_line, total_lines}
use Rattle.space_plan.proofs.text_lemmas.Whole.{written_plan_is_whole}
use Rattle.space_plan.proofs.text.render_plan.Goals as goal

pub returns : goal.returns
returns c =
    let preamble = c.args.preamble.now in
    let report = c.args.report.now in
    let P : List CyclePlan → Type 0 = λ cycles. c.push_totals.new.text.items ≡ text_of (codes "plan 1" ∷ heap_line preamble ∷ map cycle_line cycles ++ total_lines report) in
    subst P c.as_slice.ensures.value (written_plan_is_whole (codes "plan 1") (heap_line preamble) (map cycle_line c.as_slice.result.now) (total_lines report) _ _ _ _
    c.in_ok-text.ensures.items c.in_ok-push_heap_line.ensures c.in_ok-push_cycles.ensures c.in_ok-push_totals.ensures)
