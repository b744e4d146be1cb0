use Rattle.std.proofs.Common.{◌≡◌, map}
use Rattle.log_merge.specs.Placing.{IsMerging, left_count}
use Rattle.log_merge.proofs.merging.merger.Merger.place_all.Given as goal

abbrev pub invariant-loop-self : goal.invariant-loop-self
invariant-loop-self l = record {
  merging : IsMerging (map (λ log. log.items) l.logs) l.self;
  heap : l.self.heap ≡ l.initial.self.heap;
}

abbrev pub decreases-loop-self : goal.decreases-loop-self
decreases-loop-self l = left_count (map (λ log. log.items) l.logs) l.self
