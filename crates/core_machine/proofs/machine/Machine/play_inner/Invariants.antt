use Rattle.std.proofs.Common.{◌≡◌}
use Rattle.core_machine.proofs.Terms.{seat_at, SpendsRoom, steps_left}
use Rattle.core_machine.proofs.call_lemmas.PlayingInner.{InnerGoes}
use Rattle.core_machine.proofs.machine.Machine.play_inner.Given as goal

abbrev pub invariant-loop-step : goal.invariant-loop-step
invariant-loop-step g l = record {
  heap : l.self.heap ≡ l.fn.self.heap;
  goes : InnerGoes l.fn.self l.self l.seat l.fn.inner;
  spent : SpendsRoom l.fn.self l.self l.seat;
}

abbrev pub decreases-loop-step : goal.decreases-loop-step
decreases-loop-step g l = steps_left l.self.heap (seat_at l.self.state l.seat)
