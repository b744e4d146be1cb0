use Rattle.std.proofs.Common.{◌≡◌, ℕ, Vec, Result, Ok, Err, IfOk, Global}
use Rattle.heap_model.specs.declared.fault.Memory.{Memory}
use Rattle.script_text.specs.declared.script.Form.{Form}
use Rattle.script_text.specs.declared.script.Script.{Script}
use Rattle.script_text.specs.Grammar.{IsScript}
use Rattle.script_text.specs.Text.{text_of}
use Rattle.script_text.specs.Words.{script_lines}
use Rattle.script_text.specs.Writing.{IsOfForm}
use Rattle.script_text.proofs.Whole.{IsScript-written}
use Rattle.script_text.proofs.text.write_script.Goals as goal

again : (form : Form) (script : Script) (result : Result (Vec ℕ Global) Memory) → IsOfForm form script →
    IfOk result (λ text. text.items ≡ text_of (script_lines script)) → IfOk result (λ text. IsScript form text.items script)
again form script (Ok text) h e = IsScript-written form script text.items e h
again form script (Err memory) h e = tt

pub returns-clause-again : goal.returns-clause-again
returns-clause-again c = λ form h. again form c.args.script.now c.write.result h c.write.ensures
