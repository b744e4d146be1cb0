use Rattle.std.proofs.Common.{◌≡◌, subst}
use Rattle.script_text.specs.declared.script.Form.TheVariants.{Play}
use Rattle.script_text.specs.declared.script.Script.{Script}
use Rattle.script_text.specs.Grammar.{IsScript}
use Rattle.script_text.specs.Text.{text_of}
use Rattle.script_text.specs.Words.{script_lines}
use Rattle.schism_program.proofs.making.made_script_text.Goals as goal

pub returns : goal.returns
returns c =
    subst (λ (script : Script). (c.in_ok-text.text.items ≡ text_of (script_lines script)) × IsScript Play c.in_ok-text.text.items script) c.in_ok-script.ensures.made
    (c.in_ok-text.ensures.text, c.in_ok-text.ensures.again Play c.in_ok-script.ensures.play)
