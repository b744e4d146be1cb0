use Rattle.std.proofs.Common.{[], ◌∷◌, vec_len, vec_capacity, arith, rules, length-append}
use Rattle.std.proofs.lemmas.List.{drop-append-le}
use Rattle.heap_model.proofs.graph_lemmas.FoundLemmas.{AreMarked-more}
use Rattle.heap_model.proofs.graph_lemmas.PositionLemmas.{marking_leaves_a_position, HasPositions-marked}
use Rattle.heap_model.proofs.graph_lemmas.SearchLemmas.{GoesOn-note, IsFound-note}
use Rattle.heap_model.proofs.graph.reach.search.Search.note.Goals as goal

pub unreachable-requires : goal.unreachable-requires
unreachable-requires c =
    omega (
      arith,
      c.in-Err.ensures.full,
      marking_leaves_a_position c.self.inside.marks c.in-Object.id (vec_len c.self.inside.found) c.self.inside.positions (vec_capacity c.self.inside.found) (c.mark.ensures.fresh.0 c.if-mark.true) c.self.invariant.room,
    )

pub invariant_of-self-2 : goal.invariant_of-self-2
invariant_of-self-2 c =
    let fields = c.self.inside in
    let fresh = c.mark.ensures.fresh.0 c.if-mark.true in
    record {
      found = rw (c.if-mark.ensures.marked, c.in-Ok.ensures.items) (AreMarked-more fields.marks c.in-Object.id fields.found.items fresh c.self.invariant.found);
      next = rw c.in-Ok.ensures.items (omega (arith, c.self.invariant.next, length-append fields.found.items (c.in-Object.id ∷ [])));
      room = HasPositions-marked fields.marks c.mark.new.self c.in-Object.id (vec_len fields.found) fields.positions (vec_capacity fields.found) (vec_len c.push.new.self) (vec_capacity c.push.new.self)
          fresh c.if-mark.ensures.marked c.in-Ok.ensures.len c.in-Ok.ensures.capacity c.self.invariant.room;
    }

pub returns-in-Ok-clause-goes_on : goal.returns-in-Ok-clause-goes_on
returns-in-Ok-clause-goes_on c =
    rw (← c.self.view_is) (GoesOn-note c.in-Object.id c.in-Object.is (c.mark.ensures.fresh.0 c.if-mark.true) (cc (c.if-mark.ensures.marked, c.in-Ok.ensures.items, drop-append-le c.self.inside.next c.self.inside.found.items (c.in-Object.id ∷ []) c.self.invariant.next)))

pub returns-in-Ok-clause-found : goal.returns-in-Ok-clause-found
returns-in-Ok-clause-found c =
    IsFound-note _ c.in-Object.id c.in-Object.is (c.mark.ensures.fresh.0 c.if-mark.true) (search rules)
