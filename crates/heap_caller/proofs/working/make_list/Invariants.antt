use Rattle.heap_caller.specs.Parties.{StaysSeat}
use Rattle.heap_caller.proofs.working.make_list.Given as goal

abbrev pub invariant-loop : goal.invariant-loop
invariant-loop l = StaysSeat l.fn.seat l.seat
