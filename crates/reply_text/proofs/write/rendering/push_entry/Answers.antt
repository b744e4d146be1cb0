use Rattle.std.proofs.Common.{arith, ap, sym, ◌∙◌}
use Rattle.std.proofs.lemmas.Grind.{common_steps}
use Rattle.std.proofs.lemmas.Result.{on_ok_weaker}
use Rattle.reply_text.specs.write.Entries.{entry_text}
use Rattle.reply_text.proofs.write_lemmas.Lines.{said_text_is_words, gives_back_text, written_line_is_appended}
use Rattle.reply_text.proofs.write.rendering.push_entry.Goals as goal

-- the line is its first word, the words of the command, and the words of the reply
pub returns-in_ok-push_word-in-Said : goal.returns-in_ok-push_word-in-Said
returns-in_ok-push_word-in-Said c =
    let line = said_text_is_words c.in-Said.seat c.in-Said.command c.in-Said.reply in
    grind (arith, common_steps, line)

pub returns-in_ok-push_seat-in-GivesBack : goal.returns-in_ok-push_seat-in-GivesBack
returns-in_ok-push_seat-in-GivesBack c =
    let line = gives_back_text c.in-GivesBack.seat c.in-GivesBack.count ∙ ap entry_text (sym c.in-GivesBack.is) in
    on_ok_weaker c.push_gives_back.result (λ more. written_line_is_appended _ _ _ _ _ _ c.in_ok-push_seat-in-GivesBack.ensures more line) c.push_gives_back.ensures
