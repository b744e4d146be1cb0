use Rattle.library_tests.specs.SameSeat.{IsSameSeat}
use Rattle.library_tests.proofs.tests.checks.seat_calls.racing.swap_often.Given as goal

abbrev pub invariant-loop : goal.invariant-loop
invariant-loop l = IsSameSeat l.fn.seat l.seat
