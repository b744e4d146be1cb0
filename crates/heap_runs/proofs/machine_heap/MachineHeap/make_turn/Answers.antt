use Rattle.std.proofs.Common.{subst}
use Rattle.heap_record.specs.Recorded.{Recorded}
use Rattle.heap_runs.specs.MachineHeap.{run_state_of}
use Rattle.heap_runs.specs.PlayHeap.{TakesTurn}
use Rattle.heap_runs.proofs.Between.{between_after_turn}
use Rattle.heap_runs.proofs.Noting.{notes_rightly_after_turn}
use Rattle.heap_runs.proofs.Standing.{book_stands_for_run}
use Rattle.heap_runs.proofs.TurnedMachine.{machine_takes_turn}
use Rattle.heap_runs.proofs.machine_heap.MachineHeap.make_turn.Goals as goal

pub invariant_of-self : goal.invariant_of-self
invariant_of-self c =
    let old = c.self.inside.recorder in
    let new = c.turn.new.self in
    (between_after_turn old new c.self.invariant.0 c.turn.result c.turn.ensures.turned, notes_rightly_after_turn old new c.self.invariant.1 c.turn.result c.turn.ensures.turned)

pub returns-clause-turn : goal.returns-clause-turn
returns-clause-turn c =
    let law = c.law_every_run.ensures in
    let old = c.self.inside.recorder in
    subst (λ (v : Recorded). TakesTurn (run_state_of v) (run_state_of c.turn.new.self) c.turn.result) c.self.view_is
    (machine_takes_turn law.waits law.fewer old c.turn.new.self c.turn.result (book_stands_for_run law.run old.machine.heap old.machine.state old.history c.self.invariant.0) c.turn.ensures.turned)
