use Rattle.std.proofs.Common.{◌∙◌, Some, refl, sym}
use Rattle.schism_program.proofs.CrewRuns.{some_jobs_are_run}
use Rattle.schism_program.proofs.crewing.run_all.Goals as goal

pub returns : goal.returns
returns g c =
    some_jobs_are_run c.args.history c.args.heap c.args.jobs.now c.in_ok-text.text.items (Some c.in_ok-ran.ran.closed) (sym c.is_empty.ensures ∙ c.if-is_empty.false)
    (record { ran = c.in_ok-ran.ran; has_run = c.in_ok-ran.ensures; its_table = refl; tells = c.in_ok-text.ensures })
