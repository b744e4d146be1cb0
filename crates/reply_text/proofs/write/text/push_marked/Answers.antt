use Rattle.std.proofs.Common.{◌≡◌, ◌∙◌, ap, take, drop, min, length}
use Rattle.std.proofs.lemmas.Result.{on_ok_weaker}
use Rattle.reply_text.proofs.write_lemmas.MarkedText.{written_marks_are_whole}
use Rattle.reply_text.proofs.write.text.push_marked.Goals as goal

pub returns : goal.returns
returns c =
    let front : c.split_at.result.0.now ≡ take (min c.in-Some.mark.before (length c.args.entries.now)) c.args.entries.now =
    c.split_at.ensures.front ∙ ap (λ n. take n c.args.entries.now) c.min.ensures in
    let back : c.split_at.result.1.now ≡ drop (min c.in-Some.mark.before (length c.args.entries.now)) c.args.entries.now =
    c.split_at.ensures.back ∙ ap (λ n. drop n c.args.entries.now) c.min.ensures in
    on_ok_weaker c.push_entries-3.result
    (λ more. rw c.in-Some.is (written_marks_are_whole c.in-Some.mark c.args.entries.now c.split_at.result.0.now c.split_at.result.1.now _ _ _ _ front back c.in_ok-push_entries.ensures c.in_ok-push_space.ensures more))
    c.push_entries-3.ensures
