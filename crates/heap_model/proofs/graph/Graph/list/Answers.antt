use Rattle.std.proofs.lemmas.Result.{IfOk-from_err}
use Rattle.heap_model.proofs.graph.Graph.list.Goals as goal

pub returns-in_err-push : goal.returns-in_err-push
returns-in_err-push c = IfOk-from_err c.from_residual.result _ c.from_residual.ensures.0

pub returns-in_err-list_seat : goal.returns-in_err-list_seat
returns-in_err-list_seat c = IfOk-from_err c.from_residual-in_err-list_seat.result _ c.from_residual-in_err-list_seat.ensures.0

pub loop-seat-preserved : goal.loop-seat-preserved
loop-seat-preserved c = c.in_ok-list_seat.ensures
