-- Which scripts can be written.
use Rattle.script_text.specs.declared.script.Form.{Form}
use Rattle.script_text.specs.declared.script.Script.{Script}
use Rattle.script_text.specs.Grammar.{IsLine, IsTold, takes_any}
use Rattle.script_text.specs.Words.{preamble_of}

-- the script is of the grammar, in this form
abbrev pub IsOfForm : Form → Script → Type 0
IsOfForm form script = IsTold takes_any (IsLine form) (preamble_of script) script.lines
