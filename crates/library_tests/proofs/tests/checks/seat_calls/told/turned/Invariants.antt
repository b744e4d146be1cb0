use Rattle.library_tests.specs.SameSeat.{IsSameTable}
use Rattle.library_tests.proofs.tests.checks.seat_calls.told.turned.Given as goal

abbrev pub invariant-loop : goal.invariant-loop
invariant-loop g l = IsSameTable l.fn.collector l.collector
