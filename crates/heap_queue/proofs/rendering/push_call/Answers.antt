use Rattle.std.proofs.lemmas.Result.{IfOk-from_err}
use Rattle.heap_queue.proofs.rendering.push_call.Goals as goal

pub returns-in_err-push_digits : goal.returns-in_err-push_digits
returns-in_err-push_digits c = IfOk-from_err c.from_residual.result (λ _. _) c.from_residual.ensures.0

pub returns-in_err-push_told : goal.returns-in_err-push_told
returns-in_err-push_told c = IfOk-from_err c.from_residual-in_err-push_told.result (λ _. _) c.from_residual-in_err-push_told.ensures.0

pub returns-in_err-push : goal.returns-in_err-push
returns-in_err-push c = IfOk-from_err c.from_residual-in_err-push.result (λ _. _) c.from_residual-in_err-push.ensures.0
