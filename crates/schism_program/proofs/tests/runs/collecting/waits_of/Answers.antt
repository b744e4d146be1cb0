use Rattle.std.proofs.Common.{map, ap, ◌∙◌}
use Rattle.schism_program.proofs.SeatScripts.{items, all_are_seat_scripts, scripts_are_one_each}
use Rattle.schism_program.proofs.tests.runs.collecting.waits_of.Goals as goal

pub waits_in-requires-clause-seated : goal.waits_in-requires-clause-seated
waits_in-requires-clause-seated g c κs within =
    scripts_are_one_each c.as_slice.result.now c.in_ok-script.script (ap (map items) c.as_slice.ensures.value ∙ c.in_ok-scripts.ensures)

pub waits_in-requires-clause-scripts : goal.waits_in-requires-clause-scripts
waits_in-requires-clause-scripts g c κs within =
    all_are_seat_scripts c.as_slice.result.now c.in_ok-script.script c.in_ok-script.ensures.form (ap (map items) c.as_slice.ensures.value ∙ c.in_ok-scripts.ensures)
