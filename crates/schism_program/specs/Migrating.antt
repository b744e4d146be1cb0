-- What a migration writes.
use Rattle.std.specs.Prelude.{◌≡◌, ℕ, ◌≤◌, ◌↔◌, List, length, Some}
use Rattle.form_words.specs.declared.kind.TextKind.{TextKind}
use Rattle.form_words.specs.declared.kind.TextKind.TheVariants as kinds
use Rattle.form_words.specs.Works.{most_history, most_migrated, most_script}
use Rattle.script_text.specs.declared.cause.Cause.{Cause}
use Rattle.script_text.specs.declared.script.Form.{Form}
use Rattle.script_text.specs.declared.script.Form.TheVariants as forms
use Rattle.script_text.specs.declared.script.Script.{Script}
use Rattle.script_text.specs.Grammar.{IsScript}
use Rattle.script_text.specs.Migration.{MigratesScript, migrated_script_text}
use Rattle.reply_text.specs.declared.history.History.{History}
use Rattle.reply_text.specs.History.{IsHistory}
use Rattle.reply_text.specs.Migration.{MigratesHistory, migrated_history_text}
use Rattle.reply_text.specs.read.Faults.{first_history_fault}
use Rattle.schism_program.specs.Serving.{FailsAsScript, IsScriptText}
use Rattle.schism_program.specs.Verdict.{FindsIllegal, FindsLegal}

-- the input is a history
abbrev pub IsHistoryText : List ℕ → Type 0
IsHistoryText input = (history : History) × IsHistory input history

-- the input is a text of this kind, a script to be played or a history
abbrev pub IsTextOf : TextKind → List ℕ → Type 0
IsTextOf kinds.Script input = IsScriptText forms.Play input
IsTextOf kinds.History input = IsHistoryText input

-- the first fault of the input as a text of this kind is this line's cause
abbrev pub FailsAsText : TextKind → List ℕ → ℕ → Cause → Type 0
FailsAsText kinds.Script input line cause = FailsAsScript forms.Play input line cause
FailsAsText kinds.History input line cause = first_history_fault input ≡ Some (record { line = line; cause = cause })

-- the text is that of the input's script in version 2: what migrating comes to holds of it in each form that the script is of, and it may be played
pub record MigratesScriptText (input text : List ℕ) : Type 0 where
  pub script : Script
  pub spelled : IsScript forms.Play input script
  pub told : text ≡ migrated_script_text script
  pub migrates : (form : Form) → IsScript form input script → MigratesScript form input script
  pub fits : length input ≤ most_migrated kinds.Script → length text ≤ most_script

-- the text is that of the input's history in version 2: what migrating comes to holds of it, it may be checked, and a check finds of both that they are legal, or the same line that isn't
pub record MigratesHistoryText (input text : List ℕ) : Type 0 where
  pub history : History
  pub spelled : IsHistory input history
  pub told : text ≡ migrated_history_text history
  pub migrates : MigratesHistory input history
  pub legal : (verdict : List ℕ) → FindsLegal input verdict ↔ FindsLegal text verdict
  pub illegal : (line : ℕ) → FindsIllegal input line ↔ FindsIllegal text line
  pub fits : length input ≤ most_migrated kinds.History → length text ≤ most_history

-- the text is that of the input in version 2
abbrev pub Migrates : TextKind → List ℕ → List ℕ → Type 0
Migrates kinds.Script input text = MigratesScriptText input text
Migrates kinds.History input text = MigratesHistoryText input text
