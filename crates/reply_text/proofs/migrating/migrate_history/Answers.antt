use Rattle.reply_text.proofs.SecondVersion.{all_have_text_in_second, text_of_history_is_migrated}
use Rattle.reply_text.proofs.migrating.migrate_history.Goals as goal

pub returns-clause-spelled : goal.returns-clause-spelled
returns-clause-spelled c = λ all. all_have_text_in_second c.args.history.version c.args.history.entries all

pub returns-clause-migrates : goal.returns-clause-migrates
returns-clause-migrates c = λ text h. text_of_history_is_migrated text c.args.history h
