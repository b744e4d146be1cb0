use Rattle.script_text.proofs.SecondVersion.{IsOfForm-migrated, text_of_script_is_migrated}
use Rattle.script_text.proofs.migrating.migrate_script.Goals as goal

pub returns-clause-form : goal.returns-clause-form
returns-clause-form c = λ form is. IsOfForm-migrated form c.args.script is

pub returns-clause-migrates : goal.returns-clause-migrates
returns-clause-migrates c = λ form text h. text_of_script_is_migrated form text c.args.script h
