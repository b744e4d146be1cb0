-- Histories in version 2.
use Rattle.std.specs.Prelude.{◌≡◌, ℕ, ◌+◌, ◌≤◌, List, length}
use Rattle.script_text.specs.Migration.{IsEnded, lines_in_second}
use Rattle.script_text.specs.Text.{lines_of, text_of}
use Rattle.reply_text.specs.declared.history.History.{History}
use Rattle.reply_text.specs.History.{IsHistory, form_line, history_lines}

-- the history in version 2
abbrev pub migrated_history : History → History
migrated_history history = record history { version = 2 }

-- its text, each line with its line feed
abbrev pub migrated_history_text : History → List ℕ
migrated_history_text history = text_of (history_lines (migrated_history history))

-- what migrating comes to, of a text that spells the history
pub record MigratesHistory (text : List ℕ) (history : History) : Type 0 where
  pub written : migrated_history_text history ≡ text_of (lines_in_second (form_line 2 history.form) history.version (lines_of text))
  pub reads : IsHistory (migrated_history_text history) (migrated_history history)
  pub again : (other : History) → IsHistory (migrated_history_text history) other → migrated_history_text other ≡ migrated_history_text history
  pub stays : history.version ≡ 2 → IsEnded text (migrated_history_text history)
  pub room : length (migrated_history_text history) ≤ length text + 4
