use Rattle.std.proofs.Common.{◌∙◌, ◌++◌, map, sym, ap}
use Rattle.std.proofs.lemmas.List.{append-nil}
use Rattle.script_text.specs.Text.{text_of}
use Rattle.script_crew.proofs.TellingLines.{no_line_left, one_side}
use Rattle.script_crew.proofs.telling.push_runs.Goals as goal

pub returns : goal.returns
returns c =
    let text = c.loop-job.text.items in
    let logs = map (λ log. log.items) c.args.logs.now in
    let jobs = c.loop-job.job-iterator.a.rest.now in
    let runs = c.loop-job.job-iterator.b.rest.now in
    sym (append-nil text) ∙ ap (λ more. text ++ text_of more) (sym (no_line_left logs jobs runs (one_side c.in-None.ensures.steps))) ∙ c.loop-job.invariant
