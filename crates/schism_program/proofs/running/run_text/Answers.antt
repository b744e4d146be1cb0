use Rattle.std.proofs.Common.{map, ap, ◌∙◌, true}
use Rattle.schism_program.proofs.RunHistories.{history_is_run_of_script}
use Rattle.schism_program.proofs.RunTexts.{run_has_board, run_has_text}
use Rattle.schism_program.proofs.SeatScripts.{items, handed_script_is_seats, all_are_seat_scripts}
use Rattle.schism_program.proofs.running.run_text.Goals as goal

pub run_locked-requires-clause-scripts : goal.run_locked-requires-clause-scripts
run_locked-requires-clause-scripts g c κs within =
    all_are_seat_scripts c.as_slice.result.now c.in_ok-script.script c.in_ok-script.ensures.form (ap (map items) c.as_slice.ensures.value ∙ c.in_ok-scripts.ensures)

pub render_history-requires-clause-spelled : goal.render_history-requires-clause-spelled
render_history-requires-clause-spelled g c =
    let script = c.in_ok-script.script in
    let handed = ap (map items) c.as_slice.ensures.value ∙ c.in_ok-scripts.ensures in
    run_has_text true script c.history_of-history.result c.in_ok-script.ensures.form
    (history_is_run_of_script _ c.in_ok-ran.ran script c.preamble.result c.history_of-history.result c.preamble.ensures c.history_of-history.ensures c.in_ok-machine.ensures.heap
    (λ number within. handed_script_is_seats c.as_slice.result.now script number within handed) c.in_ok-ran.ensures)

pub render_history-requires-clause-board : goal.render_history-requires-clause-board
render_history-requires-clause-board g c =
    let script = c.in_ok-script.script in
    let handed = ap (map items) c.as_slice.ensures.value ∙ c.in_ok-scripts.ensures in
    run_has_board true script c.history_of-history.result c.in_ok-script.ensures.form
    (history_is_run_of_script _ c.in_ok-ran.ran script c.preamble.result c.history_of-history.result c.preamble.ensures c.history_of-history.ensures c.in_ok-machine.ensures.heap
    (λ number within. handed_script_is_seats c.as_slice.result.now script number within handed) c.in_ok-ran.ensures)

pub returns-clause-ok : goal.returns-clause-ok
returns-clause-ok g c =
    let script = c.in_ok-script.script in
    let handed = ap (map items) c.as_slice.ensures.value ∙ c.in_ok-scripts.ensures in
    record {
      script = script;
      history = c.history_of-history.result;
      spelled = c.in_ok-script.ensures.ok;
      ran = history_is_run_of_script _ c.in_ok-ran.ran script c.preamble.result c.history_of-history.result c.preamble.ensures c.history_of-history.ensures c.in_ok-machine.ensures.heap
          (λ number within. handed_script_is_seats c.as_slice.result.now script number within handed) c.in_ok-ran.ensures;
      rendered = c.in_ok-text.ensures.text;
    }
