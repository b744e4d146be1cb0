-- Which lines may follow which.
use Rattle.std.specs.Prelude.{Option, Some, None}
use Rattle.script_text.specs.declared.script.Form.{Form}
use Rattle.script_text.specs.declared.script.Form.TheVariants.{Play, Run}
use Rattle.reply_text.specs.declared.history_line.HistoryLine.{HistoryLine}
use Rattle.reply_text.specs.declared.history_line.HistoryLine.TheVariants as lines
use Rattle.reply_text.specs.declared.read.stage.Stage.{Stage}
use Rattle.reply_text.specs.declared.read.stage.Stage.TheVariants.{Unmarked, Marked, Ended}

-- in a play the space line comes before the end line; a run has none
abbrev pub first_stage : Form → Stage
first_stage Play = Unmarked
first_stage Run = Marked

-- where a line leads, if it may stand there
abbrev pub after_line : Stage → HistoryLine → Option Stage
after_line Ended line = None
after_line Unmarked (lines.Entry entry) = Some Unmarked
after_line Unmarked (lines.Space used total spine budget) = Some Marked
after_line Unmarked (lines.End used) = None
after_line Marked (lines.Entry entry) = Some Marked
after_line Marked (lines.Space used total spine budget) = None
after_line Marked (lines.End used) = Some Ended
