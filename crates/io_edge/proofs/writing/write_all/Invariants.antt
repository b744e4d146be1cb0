use Rattle.std.proofs.Common.{◌≡◌, length}
use Rattle.io_edge.specs.Taken.{TakesUpTo}
use Rattle.io_edge.proofs.writing.write_all.Given as goal

abbrev pub invariant-loop-rest : goal.invariant-loop-rest
invariant-loop-rest g l = record {
  taken : TakesUpTo (g.K.Sink.taken l.fn.sink) (g.K.Sink.taken l.sink) l.bytes l.rest;
  same : g.K.Sink.faults l.sink ≡ g.K.Sink.faults l.fn.sink;
}

abbrev pub decreases-loop-rest : goal.decreases-loop-rest
decreases-loop-rest g l = length l.rest
