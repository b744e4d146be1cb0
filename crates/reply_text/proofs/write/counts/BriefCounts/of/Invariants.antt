use Rattle.std.proofs.Common.{◌≡◌, ◌*◌, ◌≤◌, take, count_by, sum_by}
use Rattle.reply_text.specs.write.Counts.{freed_by, is_command, is_end, is_made, is_refused, is_swing}
use Rattle.reply_text.proofs.write.counts.BriefCounts.of.Given as goal

-- the counts so far
abbrev pub invariant-loop-entry : goal.invariant-loop-entry
invariant-loop-entry l = record {
  commands : l.commands ≡ count_by is_command (take l.entry-index l.entries);
  refused : l.refused ≡ count_by is_refused (take l.entry-index l.entries);
  made : l.made ≡ count_by is_made (take l.entry-index l.entries);
  cycles : l.cycles ≡ count_by is_end (take l.entry-index l.entries);
  freed : l.freed ≡ sum_by freed_by (take l.entry-index l.entries);
  swung : l.swung ≡ count_by is_swing (take l.entry-index l.entries);
  few_commands : l.commands ≤ l.entry-index;
  few_refused : l.refused ≤ l.entry-index;
  few_made : l.made ≤ l.entry-index;
  few_cycles : l.cycles ≤ l.entry-index;
  few_freed : l.freed ≤ 4294967295 * l.entry-index;
  few_swung : l.swung ≤ l.entry-index;
}
