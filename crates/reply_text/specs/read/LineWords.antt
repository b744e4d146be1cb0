-- The line of a history that words are.
use Rattle.std.specs.Prelude.{ℕ, ◌^◌, List, [], ◌∷◌, Option, Some, None, bytes_eq, codes, if◌then◌else◌}
use Rattle.script_text.specs.declared.preamble.Preamble.{Preamble}
use Rattle.script_text.specs.declared.script.Form.{Form}
use Rattle.script_text.specs.Text.{words_of}
use Rattle.reply_text.specs.declared.history_line.HistoryLine.{HistoryLine}
use Rattle.reply_text.specs.declared.history_line.HistoryLine.TheVariants as lines
use Rattle.reply_text.specs.read.Tokens.{◌>>=◌, after_word, number_at}
use Rattle.reply_text.specs.read.EntryWords.{entry_at}

-- the space line, after its first word
abbrev pub space_at : List (List ℕ) → Option (HistoryLine × List (List ℕ))
space_at rest = do
  named ← after_word (codes "used") rest
  used ← number_at (2 ^ 64) named
  whole ← after_word (codes "of") used.1
  total ← number_at (2 ^ 64) whole
  words ← after_word (codes "spine") total.1
  spine ← number_at (2 ^ 64) words
  granted ← after_word (codes "of") spine.1
  budget ← number_at (2 ^ 64) granted
  Some (lines.Space used.0 total.0 spine.0 budget.0, budget.1)

-- the end line, after its first word
abbrev pub end_at : List (List ℕ) → Option (HistoryLine × List (List ℕ))
end_at rest = do
  named ← after_word (codes "used") rest
  used ← number_at (2 ^ 64) named
  Some (lines.End used.0, used.1)

-- a line, by its first word
abbrev pub line_at : Form → Preamble → List (List ℕ) → Option (HistoryLine × List (List ℕ))
line_at form preamble [] = None
line_at form preamble (word ∷ rest) =
    if bytes_eq word (codes "space") then space_at rest
    else if bytes_eq word (codes "end") then end_at rest
    else (do
      entry ← entry_at form preamble word rest
      Some (lines.Entry entry.0, entry.1))

-- what was read, where no words are left behind it
abbrev pub alone : {A : Type 0} → A × List (List ℕ) → Option A
alone (x, []) = Some x
alone (x, word ∷ rest) = None

-- the line of a history that the bytes are
unfoldable pub line_of : Form → Preamble → List ℕ → Option HistoryLine
line_of form preamble line = line_at form preamble (words_of line) >>= alone
