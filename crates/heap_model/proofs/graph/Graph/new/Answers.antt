use Rattle.std.proofs.Common.{◌≤◌, ◌∷◌, [], ◌++◌, length, replicate, ap, ◌∙◌, arith}
use Rattle.std.proofs.lemmas.List.{length-replicate, replicate_more}
use Rattle.std.proofs.lemmas.Result.{IfOk-from_err}
use Rattle.heap_model.specs.Limits.{most_seats}
use Rattle.heap_model.specs.graph.Graph.{opening_graph_seat}
use Rattle.heap_model.proofs.graph.Graph.new.Goals as goal

pub returns-in_err-board : goal.returns-in_err-board
returns-in_err-board c = IfOk-from_err c.from_residual.result _ c.from_residual.ensures.0

pub returns-in_err-seats : goal.returns-in_err-seats
returns-in_err-seats c = IfOk-from_err c.from_residual-in_err-seats.result _ c.from_residual-in_err-seats.ensures.0

pub returns-in_err-push : goal.returns-in_err-push
returns-in_err-push c = IfOk-from_err c.from_residual-in_err-push.result _ c.from_residual-in_err-push.ensures.0

pub loop-seat-init : goal.loop-seat-init
loop-seat-init c = c.in_ok-seats.ensures.items

pub loop-seat-preserved : goal.loop-seat-preserved
loop-seat-preserved c =
    let n = c.loop-seat._seat in
    c.in_ok-push.ensures.items ∙ (ap (λ xs. xs ++ c.new-in-loop-seat.result ∷ []) c.loop-seat.invariant
    ∙ (ap (λ s. replicate n opening_graph_seat ++ s ∷ []) c.new-in-loop-seat.ensures ∙ replicate_more n opening_graph_seat))

pub invariant_of-result : goal.invariant_of-result
invariant_of-result c =
    let few : length c.loop-seat.seats.items ≤ most_seats = omega (arith, ap length c.loop-seat.invariant, length-replicate c.loop-seat._seat opening_graph_seat, c.loop-seat.auto._seat-end, c.requires.seats_fit) in
    few
