use Rattle.std.proofs.Common.{◌≡◌}
use Rattle.core_machine.proofs.Terms.{seat_at, SpendsRoom, steps_left}
use Rattle.core_machine.proofs.call_lemmas.CallEnd.{CallGoes}
use Rattle.core_machine.proofs.machine.Machine.play_call.Given as goal

abbrev pub invariant-loop-step : goal.invariant-loop-step
invariant-loop-step g l = record {
  heap : l.self.heap ≡ l.fn.self.heap;
  goes : CallGoes l.fn.self l.self l.seat l.command;
  spent : SpendsRoom l.fn.self l.self l.seat;
}

abbrev pub decreases-loop-step : goal.decreases-loop-step
decreases-loop-step g l = steps_left l.self.heap (seat_at l.self.state l.seat)
