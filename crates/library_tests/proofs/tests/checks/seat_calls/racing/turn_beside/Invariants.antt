use Rattle.library_tests.specs.SameSeat.{IsSameTable}
use Rattle.library_tests.proofs.tests.checks.seat_calls.racing.turn_beside.Given as goal

abbrev pub invariant-loop : goal.invariant-loop
invariant-loop l = IsSameTable l.fn.collector l.collector
