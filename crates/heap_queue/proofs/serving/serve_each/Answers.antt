use Rattle.std.proofs.Common.{refl, arith}
use Rattle.heap_queue.proofs.ServingParts.{serves_more}
use Rattle.heap_queue.proofs.serving.serve_each.Goals as goal

pub loop-n-preserved : goal.loop-n-preserved
loop-n-preserved g c = serves_more c.args.script.now c.loop-n.n _ _ (omega arith) refl c.loop-n.invariant c.in_ok-serve.ensures
