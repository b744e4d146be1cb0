use Rattle.std.proofs.lemmas.Result.{IfOk-from_err}
use Rattle.heap_queue.proofs.rendering.push_calls.Goals as goal

pub returns-in_err-push_call : goal.returns-in_err-push_call
returns-in_err-push_call c = IfOk-from_err c.from_residual.result (λ _. _) c.from_residual.ensures.0
