-- What was read of a history's lines so far.
use Rattle.std.specs.Prelude.{◌≡◌, ℕ, ◌<◌, ◌^◌, List, [], ◌∷◌, ◌++◌, Option, None, length}
use Rattle.std.specs.List.{AllByRecursion}
use Rattle.script_text.specs.declared.cause.Cause.TheVariants.{BadEntry}
use Rattle.script_text.specs.declared.cause.ScriptFault.{ScriptFault}
use Rattle.script_text.specs.declared.cause.ScriptFault.TheVariants as faults
use Rattle.script_text.specs.declared.preamble.Preamble.{Preamble}
use Rattle.script_text.specs.declared.script.Form.{Form}
use Rattle.script_text.specs.declared.script.Form.TheVariants.{Play}
use Rattle.reply_text.specs.declared.read.body.Body.{Body}
use Rattle.reply_text.specs.declared.history.SpaceMark.{SpaceMark}
use Rattle.reply_text.specs.declared.history_line.HistoryLine.{HistoryLine}
use Rattle.reply_text.specs.declared.history_line.HistoryLine.TheVariants as lines
use Rattle.reply_text.specs.declared.read.stage.Stage.{Stage}
use Rattle.reply_text.specs.declared.read.stage.Stage.TheVariants.{Unmarked, Marked, Ended}
use Rattle.reply_text.specs.read.Stages.{after_line}
use Rattle.reply_text.specs.History.{MarkFits, lines_with_mark}
use Rattle.reply_text.specs.Written.{IsWritten}

-- the end line, if it was read
abbrev pub end_lines : Stage → ℕ → List HistoryLine
end_lines Unmarked used = []
end_lines Marked used = []
end_lines Ended used = lines.End used ∷ []

-- the lines that were read
abbrev pub lines_read : Body → List HistoryLine
lines_read body = lines_with_mark body.mark body.entries ++ end_lines body.stage body.end_used

-- the mark is there exactly where no space line may follow
abbrev pub IsStaged : Form → Stage → ℕ → Option SpaceMark → Type 0
IsStaged form Unmarked count mark = (form ≡ Play) × (mark ≡ None)
IsStaged form Marked count mark = MarkFits form count mark
IsStaged form Ended count mark = MarkFits form count mark

-- what was read may begin a history of this form behind this preamble
pub record IsBody (form : Form) (preamble : Preamble) (body : Body) : Type 0 where
  pub entries : AllByRecursion (IsWritten form preamble) body.entries
  pub mark : IsStaged form body.stage (length body.entries) body.mark
  pub end_used : body.end_used < 2 ^ 64

-- the line of this number may not stand here; nothing is said where memory ran out
abbrev pub IsMisplaced : Stage → ℕ → HistoryLine → ScriptFault → Type 0
IsMisplaced stage number line faults.Memory = Unit {0}
IsMisplaced stage number line (faults.Line fault) = (after_line stage line ≡ None) × (fault ≡ record { line = number; cause = BadEntry })
