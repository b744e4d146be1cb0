use Rattle.std.proofs.Common.{◌+◌, ap}
use Rattle.reply_text.specs.declared.history_line.HistoryLine.TheVariants as lines
use Rattle.log_merge.specs.Lines.{entries_of}
use Rattle.log_merge.proofs.PassingLemmas.{Passed-more}
use Rattle.log_merge.proofs.checker.Checker.pass_entry.Goals as goal

pub returns-in-Ok-clause-passes : goal.returns-in-Ok-clause-passes
returns-in-Ok-clause-passes c = λ form passed before.
    let judged = c.in-Ok.ensures.judged form (entries_of passed) before.judged in
    Passed-more form c.args.self.now _ passed (lines.Entry c.args.entry.now) before c.apply.ensures.heap
    (ap (λ line. line + 1) c.apply.ensures.line) (record { graph = judged.graph; account = judged.account }) (c.in-Ok.ensures.keeps form (entries_of passed) before.judged)
