use Rattle.std.proofs.Common.{◌≡◌, ◌+◌, ◌*◌, ◌≤◌, take}
use Rattle.heap_model.specs.account.Space.{fragments_gained, fragments_lost}
use Rattle.heap_runs.proofs.playing.use_count.in_use.Given as goal

-- the sums so far
abbrev pub invariant-loop-entry : goal.invariant-loop-entry
invariant-loop-entry l = record {
  gained : l.gained ≡ fragments_gained l.heap (take l.entry-index l.entries);
  lost : l.lost ≡ fragments_lost (take l.entry-index l.entries);
  few_gained : l.gained ≤ 16 + 4294967295 * l.entry-index;
  few_lost : l.lost ≤ 8589934590 * l.entry-index;
}
