use Rattle.std.proofs.Common.{◌≡◌, map}
use Rattle.log_merge.specs.Placing.{IsMerging, AreStuck}
use Rattle.log_merge.proofs.merging.merger.Merger.place_first.Given as goal

abbrev pub invariant-loop-number : goal.invariant-loop-number
invariant-loop-number l = record {
  same : l.self ≡ l.initial.self;
  merging : IsMerging (map (λ log. log.items) l.logs) l.self;
  stuck : AreStuck (map (λ log. log.items) l.logs) l.self l.number;
}
