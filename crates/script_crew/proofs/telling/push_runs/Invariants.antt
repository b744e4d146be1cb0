use Rattle.std.proofs.Common.{◌≡◌, ◌++◌, map}
use Rattle.script_text.specs.Text.{text_of}
use Rattle.script_crew.specs.Telling.{run_lines}
use Rattle.script_crew.proofs.telling.push_runs.Given as goal

abbrev pub invariant-loop-job : goal.invariant-loop-job
invariant-loop-job l =
    let lines = run_lines (map (λ log. log.items) l.logs) in
    l.text.items ++ text_of (lines l.job-iterator.a.rest.now l.job-iterator.b.rest.now) ≡ l.fn.text.items ++ text_of (lines l.jobs l.runs)
