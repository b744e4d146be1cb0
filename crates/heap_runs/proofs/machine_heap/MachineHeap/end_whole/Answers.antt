use Rattle.std.proofs.Common.{subst, arith}
use Rattle.heap_model.specs.declared.calls.collect.CollectReply.{CollectReply}
use Rattle.heap_runs.specs.Collecting.{EndsFor}
use Rattle.heap_runs.proofs.Noted.{ends_whole_behind}
use Rattle.heap_runs.proofs.machine_heap.MachineHeap.end_whole.Goals as goal

pub returns-in_ok-came-in-Cycle : goal.returns-in_ok-came-in-Cycle
returns-in_ok-came-in-Cycle c =
    let ended = subst (λ (reply : CollectReply). EndsFor c.args.self.now c.end_for-2.new.self c.args.seat reply) c.in-Cycle.is c.in_ok-waits.ensures.ends in
    record { ends = ends_whole_behind c.args.self.now c.end_for-2.new.self c.end_for-in-Cycle.new.self c.args.seat c.in-Cycle.field-0 c.in_ok-came-in-Cycle.came (λ at_rest. c.if-run_phase-eq-REST.false (omega (arith, c.run_phase.ensures, at_rest))) ended c.in_ok-came-in-Cycle.ensures.ends }
