use Rattle.std.proofs.Common.{take}
use Rattle.heap_model.specs.account.Space.{total}
use Rattle.heap_model.specs.account.Sums.{IsFew, IsMeasured}
use Rattle.heap_model.proofs.account.effect.Effect.of_all.Given as goal

abbrev pub invariant-loop-entry : goal.invariant-loop-entry
invariant-loop-entry l = record {
  sums : IsMeasured l.all (λ summand. total summand (take l.entry-index l.entries));
  few : IsFew l.entry-index l.all;
}
