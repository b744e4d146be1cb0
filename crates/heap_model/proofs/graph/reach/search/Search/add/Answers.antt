use Rattle.std.proofs.Common.{◌≡◌, ◌+◌, get_or, set, ◌∙◌, vec_len, vec_capacity, arith, ap, subst}
use Rattle.heap_model.proofs.graph_lemmas.FoundLemmas.{AreMarked-added}
use Rattle.heap_model.proofs.graph_lemmas.PositionLemmas.{HasPositions-added}
use Rattle.heap_model.specs.graph.Search.{Search}
use Rattle.heap_model.specs.graph.Marking.{mark_counts}
use Rattle.heap_model.proofs.graph_lemmas.MarkLemmas.{mark_counts-added}
use Rattle.heap_model.proofs.graph.reach.search.Search.add.Goals as goal

pub returns-clause-added : goal.returns-clause-added
returns-clause-added c =
    subst (λ (s : Search). mark_counts c.add.new.self ≡ set (mark_counts s.marks) c.args.seat (get_or (mark_counts s.marks) c.args.seat 0 + 1)) c.self.view_is
    (ap mark_counts c.in_ok-add.ensures.added ∙ mark_counts-added c.self.inside.marks c.args.seat)

pub invariant_of-self-2 : goal.invariant_of-self-2
invariant_of-self-2 c = record {
  found = rw (c.in_ok-reserve.ensures.items, c.in_ok-add.ensures.added) (AreMarked-added c.self.inside.marks c.args.seat c.self.inside.found.items c.self.invariant.found);
  next = rw c.in_ok-reserve.ensures.items c.self.invariant.next;
  room = rw (c.in_ok-reserve.ensures.len, c.in_ok-add.ensures.added) (HasPositions-added c.self.inside.marks c.args.seat (vec_len c.self.inside.found) c.self.inside.positions (vec_capacity c.self.inside.found)
      (vec_capacity c.reserve.new.self) (omega (arith, c.in_ok-reserve.ensures.capacity, c.in_ok-reserve.ensures.ok, c.len.ensures, c.self.invariant.room.left)) c.self.invariant.room);
}
