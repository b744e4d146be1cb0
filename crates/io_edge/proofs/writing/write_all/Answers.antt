use Rattle.std.proofs.Common.{rules}
use Rattle.io_edge.proofs.Writings.{TakesUpTo-more}
use Rattle.io_edge.proofs.writing.write_all.Goals as goal

pub loop-rest-preserved : goal.loop-rest-preserved
loop-rest-preserved g c = record {
  taken = rw c.split_at.ensures.back (TakesUpTo-more _ _ _ _ _ c.in_ok-n.n c.loop-rest.invariant.taken c.in_ok-n.ensures.ok.next);
  same = search rules;
}
