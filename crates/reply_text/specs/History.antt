-- How a history is spelled, and which histories have a text.
use Rattle.std.specs.Prelude.{◌≡◌, ◌==◌, ℕ, ◌<◌, ◌≤◌, ◌^◌, List, [], ◌∷◌, ◌++◌, Option, Some, None, codes, drop, length, map, take, if◌then◌else◌}
use Rattle.std.specs.List.{AllByRecursion}
use Rattle.heap_model.specs.declared.entry.Entry.{Entry}
use Rattle.script_text.specs.declared.preamble.Preamble.{Preamble}
use Rattle.script_text.specs.declared.script.Form.{Form}
use Rattle.script_text.specs.declared.script.Form.TheVariants.{Play, Run}
use Rattle.script_text.specs.Preamble.{IsPreamble}
use Rattle.script_text.specs.Text.{lines_of}
use Rattle.script_text.specs.Words.{heap_line}
use Rattle.reply_text.specs.declared.history.History.{History}
use Rattle.reply_text.specs.declared.history.SpaceMark.{SpaceMark}
use Rattle.reply_text.specs.declared.history_line.HistoryLine.{HistoryLine}
use Rattle.reply_text.specs.declared.history_line.HistoryLine.TheVariants as lines
use Rattle.reply_text.specs.Values.{IsSpace}
use Rattle.reply_text.specs.write.Lines.{history_line}
use Rattle.reply_text.specs.Written.{IsWritten}

-- the first line of a history, which tells its version and its form
abbrev pub form_line : ℕ → Form → List ℕ
form_line version Play = if version == 2 then codes "history 2 play" else codes "history 1 play"
form_line version Run = if version == 2 then codes "history 2 run" else codes "history 1 run"

-- what the first two lines of a history tell, beside its form
abbrev pub history_preamble : History → Preamble
history_preamble history = record { version = history.version; heap = history.heap }

-- the space line of a mark
abbrev pub space_line : SpaceMark → HistoryLine
space_line mark = lines.Space mark.used mark.total mark.spine mark.budget

-- the lines of the entries, and the space line after those that stand before it
abbrev pub lines_with_mark : Option SpaceMark → List Entry → List HistoryLine
lines_with_mark None entries = map lines.Entry entries
lines_with_mark (Some mark) entries = map lines.Entry (take mark.before entries) ++ space_line mark ∷ map lines.Entry (drop mark.before entries)

-- the lines after the heap line
abbrev pub body : History → List HistoryLine
body history = lines_with_mark history.mark history.entries ++ lines.End history.end_used ∷ []

-- the lines of a history
abbrev pub history_lines : History → List (List ℕ)
history_lines history = form_line history.version history.form ∷ heap_line (history_preamble history) ∷ map history_line (body history)

-- the number of the first line that a history does not have
abbrev pub too_many : ℕ
too_many = 4000000

-- a play has a mark among its entries, and a run has none
abbrev pub MarkFits : Form → ℕ → Option SpaceMark → Type 0
MarkFits Play count (Some mark) = (mark.before ≤ count) × IsSpace mark.used mark.total mark.spine mark.budget
MarkFits Run count None = Unit {0}
MarkFits form count mark = ⊥

-- the history has a text
pub record IsSpellable (history : History) : Type 0 where
  pub preamble : IsPreamble (history_preamble history)
  pub entries : AllByRecursion (IsWritten history.form (history_preamble history)) history.entries
  pub mark : MarkFits history.form (length history.entries) history.mark
  pub end_used : history.end_used < 2 ^ 64
  pub short : length (history_lines history) < too_many

-- the text spells this history, which has a text
pub record IsHistory (text : List ℕ) (history : History) : Type 0 where
  pub spelled : lines_of text ≡ history_lines history
  pub value : IsSpellable history
