-- How a play is told in brief.
use Rattle.std.specs.Prelude.{ℕ, List, [], ◌∷◌, ◌++◌, Option, Some, None, codes, decimal}
use Rattle.script_text.specs.Text.{sentence}
use Rattle.script_text.specs.Words.{heap_line}
use Rattle.reply_text.specs.declared.history.History.{History}
use Rattle.reply_text.specs.declared.history.SpaceMark.{SpaceMark}
use Rattle.reply_text.specs.declared.history_line.HistoryLine.TheVariants as lines
use Rattle.reply_text.specs.declared.write.counts.BriefCounts.{BriefCounts}
use Rattle.reply_text.specs.History.{history_preamble, space_line}
use Rattle.reply_text.specs.write.Counts.{counts_of}
use Rattle.reply_text.specs.write.Lines.{history_line}

-- the line of the commands, and how many of them were refused
abbrev pub commands_line : BriefCounts → List ℕ
commands_line counts = sentence (codes "commands" ∷ decimal counts.commands ∷ codes "refused" ∷ decimal counts.refused ∷ [])

-- the line of the objects made, the cycles ended, the fragments freed and the arrays swung
abbrev pub work_line : BriefCounts → List ℕ
work_line counts =
    sentence (codes "made" ∷ decimal counts.made ∷ codes "cycles" ∷ decimal counts.cycles ∷ codes "freed" ∷ decimal counts.freed ∷ codes "swung" ∷ decimal counts.swung ∷ [])

-- the space line, where there is a mark
abbrev pub mark_lines : Option SpaceMark → List (List ℕ)
mark_lines None = []
mark_lines (Some mark) = history_line (space_line mark) ∷ []

-- the lines of a brief
abbrev pub brief_lines : History → List (List ℕ)
brief_lines history =
    let counts = counts_of history.entries in
    codes "brief 1" ∷ heap_line (history_preamble history) ∷ commands_line counts ∷ work_line counts ∷ mark_lines history.mark ++ history_line (lines.End history.end_used) ∷ []
