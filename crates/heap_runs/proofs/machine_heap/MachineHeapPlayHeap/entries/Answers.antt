use Rattle.std.proofs.Common.{subst}
use Rattle.heap_record.specs.Recorded.{Recorded}
use Rattle.heap_runs.specs.PlayHeap.{IsPlayed}
use Rattle.heap_runs.proofs.Noting.{is_played_with_answers}
use Rattle.heap_runs.proofs.Standing.{entries_are_played}
use Rattle.heap_runs.proofs.machine_heap.MachineHeapPlayHeap.entries.Goals as goal

pub returns-clause-played : goal.returns-clause-played
returns-clause-played c =
    let law = c.law_every_run.ensures in
    let recorded = c.self.inside.recorder in
    subst (λ (v : Recorded). IsPlayed v.machine.heap v.listed) c.self.view_is
    (is_played_with_answers c.account_laws.ensures.turned c.account_laws.ensures.counts recorded c.self.invariant.1 (entries_are_played law.run law.play law.words recorded.machine.heap recorded.machine.state recorded.history c.self.invariant.0))
