use Rattle.std.proofs.Common.{vec_len, vec_capacity, ap, ◌∙◌, arith}
use Rattle.heap_model.specs.graph.Marking.{mark_counts}
use Rattle.heap_model.proofs.graph_lemmas.FoundLemmas.{AreMarked-none}
use Rattle.heap_model.proofs.graph_lemmas.MarkLemmas.{mark_counts-no_marks}
use Rattle.heap_model.proofs.graph_lemmas.PositionLemmas.{HasPositions-anew}
use Rattle.heap_model.proofs.graph.reach.search.Search.restart.Goals as goal

pub invariant_of-self : goal.invariant_of-self
invariant_of-self c = record {
  found = rw (c.clear.ensures, c.clear-2.ensures.items) (AreMarked-none (mark_counts c.self.inside.marks));
  next = omega arith;
  room = rw c.clear-2.ensures.len (HasPositions-anew c.self.inside.marks c.clear.new.self (vec_len c.self.inside.found) c.self.inside.positions (vec_capacity c.self.inside.found) (vec_capacity c.clear-2.new.self)
      (ap mark_counts c.clear.ensures ∙ mark_counts-no_marks (mark_counts c.self.inside.marks)) (omega (arith, c.clear-2.ensures.capacity)) c.self.invariant.room);
}
