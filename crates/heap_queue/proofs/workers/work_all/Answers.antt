use Rattle.std.proofs.lemmas.Result.{IfOk-from_err}
use Rattle.heap_queue.proofs.workers.work_all.Goals as goal

pub returns-in_err-push : goal.returns-in_err-push
returns-in_err-push g c = IfOk-from_err c.from_residual.result _ c.from_residual.ensures.0

pub returns-in_err-push-2 : goal.returns-in_err-push-2
returns-in_err-push-2 g c = IfOk-from_err c.from_residual-in_err-push-2.result _ c.from_residual-in_err-push-2.ensures.0

pub returns-in_err-both : goal.returns-in_err-both
returns-in_err-both g c = IfOk-from_err c.from_residual-in_err-both.result _ c.from_residual-in_err-both.ensures.0

pub returns-in_err-slack : goal.returns-in_err-slack
returns-in_err-slack g c = IfOk-from_err c.from_residual-in_err-slack.result _ c.from_residual-in_err-slack.ensures.0
