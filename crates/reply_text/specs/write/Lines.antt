-- The lines of a history after its heap line: how each is spelled, and which there may be.
use Rattle.std.specs.Prelude.{ℕ, ◌<◌, ◌^◌, List, [], ◌∷◌, codes, decimal}
use Rattle.script_text.specs.declared.preamble.Preamble.{Preamble}
use Rattle.script_text.specs.declared.script.Form.{Form}
use Rattle.script_text.specs.Text.{sentence}
use Rattle.reply_text.specs.declared.history_line.HistoryLine.{HistoryLine}
use Rattle.reply_text.specs.declared.history_line.HistoryLine.TheVariants as lines
use Rattle.reply_text.specs.write.Entries.{entry_words}
use Rattle.reply_text.specs.Written.{IsWritten}
use Rattle.reply_text.specs.Values.{IsSpace}

-- the words of a line of a history
abbrev pub history_words : HistoryLine → List (List ℕ)
history_words (lines.Entry entry) = entry_words entry
history_words (lines.Space used total spine budget) =
    codes "space" ∷ codes "used" ∷ decimal used ∷ codes "of" ∷ decimal total ∷ codes "spine" ∷ decimal spine ∷ codes "of" ∷ decimal budget ∷ []
history_words (lines.End used) = codes "end" ∷ codes "used" ∷ decimal used ∷ []

-- the text of a line of a history, without a line feed
abbrev pub history_line : HistoryLine → List ℕ
history_line line = sentence (history_words line)

-- a line that a history of this form may have behind this preamble
abbrev pub IsHistoryLine : Form → Preamble → HistoryLine → Type 0
IsHistoryLine form preamble (lines.Entry entry) = IsWritten form preamble entry
IsHistoryLine form preamble (lines.Space used total spine budget) = IsSpace used total spine budget
IsHistoryLine form preamble (lines.End used) = used < 2 ^ 64
