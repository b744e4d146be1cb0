-- What a check finds.
use Rattle.std.specs.Prelude.{◌≡◌, ℕ, List, [], ◌∷◌, ◌++◌, length, codes, decimal}
use Rattle.reply_text.specs.declared.history.History.{History}
use Rattle.reply_text.specs.History.{IsHistory}
use Rattle.log_merge.specs.Legal.{IsLegalHistory}
use Rattle.log_merge.specs.Lines.{IsFirstIllegal}

-- the line that tells how many entries a legal history has
abbrev pub verdict_line : ℕ → List ℕ
verdict_line count = codes "legal " ++ decimal count

-- the input is a legal history
abbrev pub IsLegalText : List ℕ → Type 0
IsLegalText input = (history : History) × IsHistory input history × IsLegalHistory history

-- the input is a legal history, and the text tells how many entries it has
pub record FindsLegal (input text : List ℕ) : Type 0 where
  pub history : History
  pub spelled : IsHistory input history
  pub legal : IsLegalHistory history
  pub told : text ≡ verdict_line (length history.entries) ++ 10 ∷ []

-- the input is a history, of which this line is the first that isn't legal
pub record FindsIllegal (input : List ℕ) (line : ℕ) : Type 0 where
  pub history : History
  pub spelled : IsHistory input history
  pub first : IsFirstIllegal history line
  pub illegal : ¬ IsLegalHistory history
