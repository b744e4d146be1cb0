use Rattle.std.proofs.Common.{◌++◌, map, take, drop, ◌+◌, rules}
use Rattle.reply_text.specs.declared.history_line.HistoryLine.TheVariants as lines
use Rattle.log_merge.specs.Checking.{StopsIn}
use Rattle.log_merge.proofs.LineLemmas.{entry_lines_parted_at}
use Rattle.log_merge.proofs.PassingLemmas.{StopsIn-append, StopsIn-more}
use Rattle.log_merge.proofs.checker.Checker.pass_entries.Goals as goal

pub returns-in_err-pass_entry-clause-stops : goal.returns-in_err-pass_entry-clause-stops
returns-in_err-pass_entry-clause-stops c = λ form passed.
    let i = c.loop-entry.entry-index in
    let entries = c.args.entries.now in
    let first = map lines.Entry (take i entries) in
    let stops : StopsIn form c.args.self.now passed (map lines.Entry entries) c.in_err-pass_entry.field-0.0 =
    StopsIn-more form c.args.self.now passed _ (map lines.Entry (drop (i + 1) entries)) (map lines.Entry entries) _ (entry_lines_parted_at entries i _ c.loop-entry-test.true)
    (StopsIn-append form c.args.self.now c.loop-entry.self passed first _ _ c.loop-entry.invariant.heap (c.loop-entry.invariant.passes form passed) (c.in_err-pass_entry.ensures.stops form (passed ++ first))) in
    search rules
