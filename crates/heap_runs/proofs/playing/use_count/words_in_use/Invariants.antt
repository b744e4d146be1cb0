use Rattle.std.proofs.Common.{◌≡◌, ◌*◌, ◌≤◌, take}
use Rattle.heap_model.specs.account.Space.{words_granted, words_returned}
use Rattle.heap_runs.proofs.playing.use_count.words_in_use.Given as goal

-- the sums so far
abbrev pub invariant-loop-entry : goal.invariant-loop-entry
invariant-loop-entry l = record {
  granted : l.granted ≡ words_granted (take l.entry-index l.entries);
  returned : l.returned ≡ words_returned (take l.entry-index l.entries);
  few_granted : l.granted ≤ 4294967295 * l.entry-index;
  few_returned : l.returned ≤ 4294967295 * l.entry-index;
}
