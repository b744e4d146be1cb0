use Rattle.library_tests.specs.SameSeat.{IsSameSeat, IsSameTable}
use Rattle.library_tests.proofs.tests.checks.seat_calls.told.play.Given as goal

abbrev pub invariant-loop-line : goal.invariant-loop-line
invariant-loop-line g l = record {
  first : IsSameSeat l.fn.first l.first;
  second : IsSameSeat l.fn.second l.second;
  collector : IsSameTable l.fn.collector l.collector;
}
