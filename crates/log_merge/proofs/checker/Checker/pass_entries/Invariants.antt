use Rattle.std.proofs.Common.{◌≡◌, ◌+◌, List, map, take}
use Rattle.script_text.specs.declared.script.Form.{Form}
use Rattle.reply_text.specs.declared.history_line.HistoryLine.{HistoryLine}
use Rattle.reply_text.specs.declared.history_line.HistoryLine.TheVariants as lines
use Rattle.log_merge.specs.Checking.{GoesOver, AccountFits}
use Rattle.log_merge.proofs.checker.Checker.pass_entries.Given as goal

abbrev pub invariant-loop-entry : goal.invariant-loop-entry
invariant-loop-entry l = record {
  passes : (form : Form) (passed : List HistoryLine) → GoesOver form l.initial.self l.self passed (map lines.Entry (take l.entry-index l.entries));
  ready : AccountFits l.self;
  line : l.self.line ≡ l.initial.self.line + l.entry-index;
  heap : l.self.heap ≡ l.initial.self.heap;
}
