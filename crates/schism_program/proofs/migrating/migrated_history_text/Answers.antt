use Rattle.std.proofs.Common.{ap, ◌∙◌}
use Rattle.reply_text.specs.declared.history.History.{History}
use Rattle.reply_text.specs.History.{IsHistory, history_lines}
use Rattle.script_text.specs.Text.{text_of}
use Rattle.schism_program.proofs.Migrations.{history_is_migrated}
use Rattle.schism_program.proofs.migrating.migrated_history_text.Goals as goal

pub returns-clause-ok : goal.returns-clause-ok
returns-clause-ok c =
    let spelled : IsHistory c.args.input.items c.in_ok-history.history = rw c.deref.ensures.value at c.in_ok-history.ensures.ok in
    history_is_migrated c.args.input.items c.in_ok-text.text.items c.in_ok-history.history spelled
    (c.in_ok-text.ensures.text ∙ ap (λ (h : History). text_of (history_lines h)) c.migrate_history.ensures.value) (c.migrate_history.ensures.migrates _ spelled)
