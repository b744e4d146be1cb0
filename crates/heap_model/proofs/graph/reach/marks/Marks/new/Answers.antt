use Rattle.std.proofs.Common.{◌≡◌, ℕ, [], ◌∷◌, ◌++◌, length, map, replicate, take, sym, ap, ◌∙◌, take_all, rules}
use Rattle.std.proofs.lemmas.List.{map_more}
use Rattle.std.proofs.lemmas.Result.{IfOk-from_err}
use Rattle.heap_model.specs.graph.Graph.{GraphSeat}
use Rattle.heap_model.specs.graph.Walks.{marking_by}
use Rattle.heap_model.proofs.graph_lemmas.WalkLemmas.{AreOfWalks-zeros, zeros_are_no_marks}
use Rattle.heap_model.proofs.graph.reach.marks.Marks.new.Goals as goal

all : (c : goal.After-loop-seat) → c.loop-seat.rows.items ≡ map (λ (seat : GraphSeat). replicate (length seat.objects) 0) c.args.seats.now
all c = c.loop-seat.invariant ∙ ap (map (λ (seat : GraphSeat). replicate (length seat.objects) 0)) (take_all c.loop-seat.seat-index c.args.seats.now c.loop-seat-test.false)

pub invariant_of-result : goal.invariant_of-result
invariant_of-result c = rw (all c) (AreOfWalks-zeros (λ (seat : GraphSeat). length seat.objects) c.args.seats.now)

pub returns : goal.returns
returns c = ap (marking_by 1 0) (all c) ∙ zeros_are_no_marks (λ (seat : GraphSeat). length seat.objects) c.args.seats.now

pub returns-in_err-rows : goal.returns-in_err-rows
returns-in_err-rows c = IfOk-from_err c.from_residual.result _ c.from_residual.ensures.0

pub returns-in_err-push : goal.returns-in_err-push
returns-in_err-push c = IfOk-from_err c.from_residual-in_err-push.result _ c.from_residual-in_err-push.ensures.0

pub returns-in_err-marks : goal.returns-in_err-marks
returns-in_err-marks c = IfOk-from_err c.from_residual-in_err-marks.result _ c.from_residual-in_err-marks.ensures.0

pub loop-seat-init : goal.loop-seat-init
loop-seat-init c = c.in_ok-rows.ensures.items

pub loop-seat-preserved : goal.loop-seat-preserved
loop-seat-preserved c =
    let seats = c.args.seats.now in
    let i = c.loop-seat.seat-index in
    let row : c.in_ok-marks.marks.items ≡ replicate c.made.result 0 = search rules in
    let same = row ∙ (ap (λ (n : ℕ). replicate n 0) c.made.ensures.count ∙ ap (λ (seat : GraphSeat). replicate (length seat.objects) 0) c.seat-item.is) in
    c.in_ok-push.ensures.items ∙ (ap (λ rows. rows ++ c.in_ok-marks.marks.items ∷ []) c.loop-seat.invariant
    ∙ (ap (λ r. map (λ (seat : GraphSeat). replicate (length seat.objects) 0) (take i seats) ++ r ∷ []) same
    ∙ sym (map_more (λ (seat : GraphSeat). replicate (length seat.objects) 0) seats i c.seat-item.result c.loop-seat-test.true)))
