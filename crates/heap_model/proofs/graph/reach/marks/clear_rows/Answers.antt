use Rattle.std.proofs.Common.{◌≤◌, ◌++◌, length, map, get_or, ap, ◌∙◌, take_all, take, arith}
use Rattle.std.proofs.lemmas.List.{append-nil, drop_all, get_or_default}
use Rattle.std.proofs.lemmas.List.Edits.{map_over_more}
use Rattle.heap_model.proofs.graph_lemmas.WalkLemmas.{zeros}
use Rattle.heap_model.proofs.graph.reach.marks.clear_rows.Goals as goal

pub loop-seat-preserved : goal.loop-seat-preserved
loop-seat-preserved c =
    let row = get_or c.loop-seat.rows c.loop-seat.seat c.index-rows-seat.result in
    rw c.clear.ensures (map_over_more zeros c.args.rows.now c.loop-seat.rows c.loop-seat.seat row c.loop-seat-test.true c.loop-seat.invariant (get_or_default c.loop-seat.rows c.loop-seat.seat c.index-rows-seat.result row (omega (arith, c.loop-seat-test.true, c.loop-seat.auto.rows))))

pub returns : goal.returns
returns c =
    let rows = c.args.rows.now in
    let i = c.loop-seat.seat in
    let past : length rows ≤ i = c.loop-seat-test.false in
    c.loop-seat.invariant ∙ ap (λ rest. map zeros (take i rows) ++ rest) (drop_all i rows past) ∙ append-nil (map zeros (take i rows)) ∙ ap (map zeros) (take_all i rows past)
