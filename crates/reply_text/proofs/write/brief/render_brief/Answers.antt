use Rattle.std.proofs.Common.{◌≡◌, ◌∙◌, ◌∷◌, ◌++◌, [], ap, codes, subst}
use Rattle.script_text.specs.declared.preamble.Preamble.{Preamble}
use Rattle.script_text.specs.Text.{text_of}
use Rattle.script_text.specs.Words.{heap_line}
use Rattle.reply_text.specs.declared.history_line.HistoryLine.TheVariants as lines
use Rattle.reply_text.specs.declared.write.counts.BriefCounts.{BriefCounts}
use Rattle.reply_text.specs.write.Brief.{commands_line, work_line, mark_lines}
use Rattle.reply_text.specs.write.Counts.{counts_of}
use Rattle.reply_text.specs.write.Lines.{history_line}
use Rattle.reply_text.proofs.write_lemmas.Briefs.{written_brief_is_whole}
use Rattle.reply_text.proofs.write.brief.render_brief.Goals as goal

pub returns : goal.returns
returns c =
    let history = c.args.history.now in
    let counts : c.of-counts.result ≡ counts_of history.entries = c.of-counts.ensures ∙ ap counts_of c.as_slice.ensures in
    let P : Preamble → BriefCounts → Type 0 = λ preamble counts. c.push_end.new.text.items ≡ text_of (codes "brief 1" ∷ heap_line preamble ∷ commands_line counts ∷ work_line counts ∷ mark_lines history.mark ++ history_line (lines.End history.end_used) ∷ []) in
    subst (λ (preamble : Preamble). P preamble (counts_of history.entries)) c.preamble.ensures
    (subst (λ (counts : BriefCounts). P c.preamble.result counts) counts
    (written_brief_is_whole (codes "brief 1") (heap_line c.preamble.result) (commands_line c.of-counts.result) (work_line c.of-counts.result) (history_line (lines.End history.end_used)) (mark_lines history.mark) _ _ _ _ _ _
    c.in_ok-text.ensures.items c.in_ok-push_heap_line.ensures c.in_ok-push_commands.ensures c.in_ok-push_work.ensures c.in_ok-push_mark.ensures c.in_ok-push_end.ensures))
