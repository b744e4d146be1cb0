use Rattle.std.proofs.Common.{◌≡◌, length, subst, arith}
use Rattle.std.proofs.lemmas.Bool.{iff_false}
use Rattle.heap_model.specs.declared.id.Id.TheVariants.{Made}
use Rattle.heap_model.specs.graph.Objects.{graph_seat}
use Rattle.heap_model.specs.graph.Marking.{IsListed}
use Rattle.heap_model.proofs.graph_lemmas.OrderLemmas.{IsListed-push, IsListed-skip, IsListed-seat}
use Rattle.heap_model.proofs.graph.Graph.list_seat.Goals as goal
use Rattle.heap_model.proofs.graph.Graph.list_seat.Goals.{then-is_marked+in_ok-push, else-is_marked}

pub loop-count-preserved : goal.loop-count-preserved
loop-count-preserved c =
    let position = Made c.args.seat c.loop-count.count in
    elim c.if-is_marked.branch [
      | then-is_marked+in_ok-push w ↦ rw (w.ids-is, w.in_ok-push.ensures.items) (IsListed-push c.args.marks.now position c.loop-count.ids.items c.loop-count.invariant (c.is_marked.ensures.marked.0 w.if-is_marked.true))
      | else-is_marked w ↦ rw w.ids-is (IsListed-skip c.args.marks.now position c.loop-count.ids.items c.loop-count.invariant (iff_false c.is_marked.ensures.marked w.if-is_marked.false))
    ]

pub returns : goal.returns
returns c =
    let all : c.loop-count.count ≡ length (graph_seat c.args.self.now c.args.seat).objects = omega (arith, c.made-count-end.ensures.count) in
    IsListed-seat c.args.self.now c.args.marks.now c.args.seat c.loop-count.ids.items c.requires.objects
    (subst (λ n. IsListed c.args.marks.now (Made c.args.seat n) c.loop-count.ids.items) all c.loop-count.invariant)
