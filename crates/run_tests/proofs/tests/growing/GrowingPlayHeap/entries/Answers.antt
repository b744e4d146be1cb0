use Rattle.std.proofs.Common.{subst}
use Rattle.heap_runs.specs.PlayHeap.{PlayState, IsPlayed}
use Rattle.run_tests.proofs.Growing.{growing_is_played}
use Rattle.run_tests.proofs.tests.growing.GrowingPlayHeap.entries.Goals as goal

pub returns-clause-played : goal.returns-clause-played
returns-clause-played c =
    subst (λ (s : PlayState). IsPlayed s.heap s.entries) c.self.view_is (growing_is_played c.self.inside.heap c.self.inside.entries.items c.self.inside.graph c.self.invariant)
