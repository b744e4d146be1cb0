use Rattle.heap_caller.specs.Parties.{StaysCollector}
use Rattle.heap_caller.proofs.working.collect.Given as goal

abbrev pub invariant-loop : goal.invariant-loop
invariant-loop l = StaysCollector l.fn.collector l.collector
