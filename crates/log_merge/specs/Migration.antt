-- Histories of which a check tells the same.
use Rattle.std.specs.Prelude.{◌≡◌, ◌↔◌, ℕ, length}
use Rattle.reply_text.specs.declared.history.History.{History}
use Rattle.reply_text.specs.Migration.{migrated_history}
use Rattle.log_merge.specs.Legal.{IsLegalHistory}
use Rattle.log_merge.specs.Lines.{IsFirstIllegal}

-- both are legal or neither is, with as many entries, and the first line that isn't legal is the same one in both
pub record AreJudgedAlike (one other : History) : Type 0 where
  pub legal : IsLegalHistory one ↔ IsLegalHistory other
  pub count : length one.entries ≡ length other.entries
  pub first : (line : ℕ) → IsFirstIllegal one line ↔ IsFirstIllegal other line
  pub line_is_one : (line again : ℕ) → IsFirstIllegal one line → IsFirstIllegal other again → line ≡ again

-- a history and itself in version 2 are judged alike
abbrev pub MigratingKeepsVerdicts : Type 0
MigratingKeepsVerdicts = (history : History) → AreJudgedAlike history (migrated_history history)
