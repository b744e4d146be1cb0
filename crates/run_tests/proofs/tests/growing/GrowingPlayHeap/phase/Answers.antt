use Rattle.std.proofs.Common.{◌∙◌, sym, ap}
use Rattle.heap_model.specs.account.PhaseCounts.{phase}
use Rattle.heap_runs.specs.PlayHeap.{PlayState}
use Rattle.run_tests.proofs.Growing.{no_phase_has_begun}
use Rattle.run_tests.proofs.tests.growing.GrowingPlayHeap.phase.Goals as goal

pub returns-clause-phase : goal.returns-clause-phase
returns-clause-phase c = sym (no_phase_has_begun c.self.inside.entries.items c.self.invariant.plain) ∙ ap (λ (s : PlayState). phase s.entries) c.self.view_is
