use Rattle.std.proofs.Common.{length, map, vec_capacity, sum_by, take_all, ap, arith, ◌∙◌}
use Rattle.heap_model.proofs.graph_lemmas.FoundLemmas.{AreMarked-none}
use Rattle.heap_model.proofs.graph_lemmas.PositionLemmas.{HasPositions-made}
use Rattle.std.proofs.lemmas.List.Sums.{sum-map, sum_by_more}
use Rattle.heap_model.specs.graph.Graph.{GraphSeat}
use Rattle.heap_model.specs.graph.Marking.{mark_counts}
use Rattle.heap_model.proofs.graph_lemmas.MarkLemmas.{mark_counts-no_marks}
use Rattle.heap_model.proofs.graph.reach.search.Search.new.Goals as goal

pub loop-seat-preserved : goal.loop-seat-preserved
loop-seat-preserved c = (
  omega (
    arith,
    c.loop-seat.invariant.0,
    c.made.ensures.count,
    ap (λ (seat : GraphSeat). length seat.objects) c.seat-item.is,
    sum_by_more (λ (seat : GraphSeat). length seat.objects) c.args.seats.now c.loop-seat.seat-index c.seat-item.result c.loop-seat-test.true,
  ),
  omega (arith, c.loop-seat.invariant.1, c.made.ensures.few),
)

pub returns : goal.returns
returns c = ap mark_counts c.in_ok-new.ensures ∙ mark_counts-no_marks _

pub invariant_of-result : goal.invariant_of-result
invariant_of-result c = let seats = c.args.seats.now in let size = λ (seat : GraphSeat). length seat.objects in record {
  found = rw (c.in_ok-new.ensures, c.in_ok-with_capacity.ensures.items) (AreMarked-none _);
  next = omega arith;
  room = rw c.in_ok-with_capacity.ensures.len (HasPositions-made c.in_ok-new.field-0 (map size seats) c.loop-seat.positions (vec_capacity c.in_ok-with_capacity.field-0)
      (ap mark_counts c.in_ok-new.ensures ∙ mark_counts-no_marks _) (omega (arith, c.loop-seat.invariant.0, sum-map size seats, ap (sum_by size) (take_all c.loop-seat.seat-index seats c.loop-seat-test.false))) (omega (arith, c.in_ok-with_capacity.ensures.capacity)));
}
