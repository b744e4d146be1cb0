-- What an input is that is served, or refused, and what is told of a play of it.
use Rattle.std.specs.Prelude.{◌≡◌, ℕ, Bool, true, false, List, Some}
use Rattle.script_text.specs.declared.cause.Cause.{Cause}
use Rattle.script_text.specs.declared.script.Form.{Form}
use Rattle.script_text.specs.declared.script.Form.TheVariants as forms
use Rattle.script_text.specs.declared.script.Script.{Script}
use Rattle.script_text.specs.Grammar.{IsScript}
use Rattle.script_text.specs.Faults.{first_fault}
use Rattle.script_text.specs.Made.{made_script}
use Rattle.script_text.specs.Text.{text_of}
use Rattle.script_text.specs.Words.{script_lines}
use Rattle.reply_text.specs.declared.history.History.{History}
use Rattle.reply_text.specs.History.{history_lines}
use Rattle.reply_text.specs.write.Brief.{brief_lines}
use Rattle.heap_runs.specs.Play.{IsPlay}
use Rattle.heap_runs.specs.Pressed.{IsPressedPlay}

-- the input is a script of this form
abbrev pub IsScriptText : Form → List ℕ → Type 0
IsScriptText form input = (script : Script) × IsScript form input script

-- the lines that tell the history of a play: all of them, or its brief
abbrev pub told_lines : Bool → History → List (List ℕ)
told_lines false history = history_lines history
told_lines true history = brief_lines history

-- the history is a play of the script, with a pace or with none, whose seats collect where they are refused, or one whose seats don't
abbrev pub IsPlayBy : Bool → Bool → Script → History → Type 0
IsPlayBy false paced script history = IsPlay paced script history
IsPlayBy true paced script history = IsPressedPlay paced script history

-- the text tells such a play of the input's script
pub record Plays (press paced brief : Bool) (input text : List ℕ) : Type 0 where
  pub script : Script
  pub history : History
  pub spelled : IsScript forms.Play input script
  pub played : IsPlayBy press paced script history
  pub rendered : text ≡ text_of (told_lines brief history)

-- the text is that of the script that is made from this start, for so many seats and of so many lines
abbrev pub IsMadeText : ℕ → ℕ → ℕ → List ℕ → Type 0
IsMadeText start seats lines text =
    let script = made_script start seats lines in (text ≡ text_of (script_lines script)) × IsScript forms.Play text script

-- the first fault of the input as a script of this form is this line's cause
abbrev pub FailsAsScript : Form → List ℕ → ℕ → Cause → Type 0
FailsAsScript form input line cause = first_fault form input ≡ Some (record { line = line; cause = cause })
