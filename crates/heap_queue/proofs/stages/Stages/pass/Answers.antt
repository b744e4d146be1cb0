use Rattle.std.proofs.Common.{arith}
use Rattle.heap_queue.proofs.StageLists.{named_after_set}
use Rattle.heap_queue.proofs.stages.Stages.pass.Goals as goal

pub returns-clause-named : goal.returns-clause-named
returns-clause-named c = named_after_set c.args.self.now.stages c.args.seat c.after-stage.result (omega (arith, c.requires.seat)) c.after-stage.ensures.named c.requires.named
