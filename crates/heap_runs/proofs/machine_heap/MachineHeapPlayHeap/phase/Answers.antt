use Rattle.std.proofs.Common.{sym, ap, ◌∙◌, arith}
use Rattle.heap_model.specs.account.PhaseCounts.{phase}
use Rattle.heap_model.proofs.account_lemmas.TurnedCounts.{phase_without_turned}
use Rattle.core_rule.proofs.parties.Collectors.{phase_within_collector_entries}
use Rattle.heap_runs.proofs.machine_heap.MachineHeapPlayHeap.phase.Goals as goal

pub returns-clause-phase : goal.returns-clause-phase
returns-clause-phase c = c.run_phase.ensures ∙ ap phase (sym c.known_noted.ensures.same) ∙ phase_without_turned c.args.self.now.listed

pub returns-clause-logged : goal.returns-clause-logged
returns-clause-logged c = omega (arith, returns-clause-phase c, phase_within_collector_entries c.args.self.now.listed)
