use Rattle.library_tests.specs.SameSeat.{IsSameSeat}
use Rattle.library_tests.proofs.tests.table.call.Given as goal

abbrev pub invariant-loop : goal.invariant-loop
invariant-loop l = IsSameSeat l.fn.holder l.holder
