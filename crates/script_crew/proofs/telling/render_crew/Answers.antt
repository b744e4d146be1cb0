use Rattle.std.proofs.Common.{codes, map}
use Rattle.script_text.specs.Words.{heap_line}
use Rattle.script_crew.specs.CrewText.{crew_preamble}
use Rattle.script_crew.specs.Telling.{run_lines}
use Rattle.script_crew.proofs.TellingLines.{written_crew_is_whole}
use Rattle.script_crew.proofs.telling.render_crew.Goals as goal

pub returns : goal.returns
returns c =
    written_crew_is_whole (codes "crew 1") (heap_line (crew_preamble c.args.heap)) (codes "end used 0")
    (run_lines (map (λ log. log.items) c.args.logs.now) c.args.jobs.now c.args.runs.now) _ _ _ _
    c.in_ok-text.ensures.items c.in_ok-push_heap_line.ensures c.in_ok-push_runs.ensures c.in_ok-extend_from_slice.ensures.items
