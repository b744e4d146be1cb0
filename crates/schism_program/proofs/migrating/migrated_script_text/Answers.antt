use Rattle.std.proofs.Common.{ap, ◌∙◌}
use Rattle.script_text.specs.declared.script.Script.{Script}
use Rattle.script_text.specs.Text.{text_of}
use Rattle.script_text.specs.Words.{script_lines}
use Rattle.schism_program.proofs.Migrations.{script_is_migrated}
use Rattle.schism_program.proofs.migrating.migrated_script_text.Goals as goal

pub returns-clause-ok : goal.returns-clause-ok
returns-clause-ok c =
    script_is_migrated c.args.input.items c.in_ok-text.text.items c.in_ok-script.script (rw c.deref.ensures.value at c.in_ok-script.ensures.ok)
    (c.in_ok-text.ensures.text ∙ ap (λ (s : Script). text_of (script_lines s)) c.migrate_script.ensures.value) c.migrate_script.ensures.migrates
