use Rattle.std.proofs.Common.{false}
use Rattle.schism_program.proofs.RunTexts.{run_has_board, run_has_text}
use Rattle.schism_program.proofs.table_run.run_on_table.Goals as goal

pub render_history-requires-clause-spelled : goal.render_history-requires-clause-spelled
render_history-requires-clause-spelled g c = run_has_text false c.in_ok-script.script c.in_ok-told.told.history c.in_ok-script.ensures.form c.in_ok-told.ensures.ran

pub render_history-requires-clause-board : goal.render_history-requires-clause-board
render_history-requires-clause-board g c = run_has_board false c.in_ok-script.script c.in_ok-told.told.history c.in_ok-script.ensures.form c.in_ok-told.ensures.ran

pub returns-clause-ok : goal.returns-clause-ok
returns-clause-ok g c = record {
  script = c.in_ok-script.script;
  history = c.in_ok-told.told.history;
  spelled = c.in_ok-script.ensures.ok;
  ran = c.in_ok-told.ensures.ran;
  rendered = c.in_ok-text.ensures.text;
  tabled = c.in_ok-told.ensures.tabled;
}
