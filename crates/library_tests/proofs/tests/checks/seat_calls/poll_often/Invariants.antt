use Rattle.std.proofs.Common.{◌≡◌, ◌+◌, ◌*◌, ◌≤◌, false}
use Rattle.heap_model.specs.calls.SeatState.{own_graph_seat}
use Rattle.library_tests.proofs.tests.checks.seat_calls.poll_often.Given as goal

abbrev pub invariant-loop-i : goal.invariant-loop-i
invariant-loop-i g l =
    let state = g.S.SeatCalls.state l.seat in
    record {
      present : (own_graph_seat state).left ≡ false;
      room : 2 * l.times + 2 ≤ state.spare + 2 * l._i;
    }
