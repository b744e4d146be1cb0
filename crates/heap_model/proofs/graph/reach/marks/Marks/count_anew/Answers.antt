use Rattle.std.proofs.Common.{◌≡◌, length, map, ap, ◌∙◌, arith}
use Rattle.std.specs.Vec.{with_items}
use Rattle.std.proofs.lemmas.List.{length-map, with_items_is}
use Rattle.heap_model.specs.graph.Marking.{no_marks, mark_counts}
use Rattle.heap_model.specs.graph.Walks.{marking_by}
use Rattle.heap_model.proofs.graph_lemmas.WalkLemmas.{zeros, AreOfWalks-zeros, anew_has_no_marks}
use Rattle.heap_model.proofs.graph.reach.marks.Marks.count_anew.Goals as goal

cleared : (c : goal.After-self-3-1) → (with_items c.self.inside.seats c.clear_rows.new.rows).items ≡ map zeros c.self.inside.seats.items
cleared c =
    let same = c.clear_rows.ensures ∙ ap (map zeros) c.as_mut_slice.ensures.value in
    with_items_is c.self.inside.seats c.clear_rows.new.rows (omega (arith, ap length same, length-map c.self.inside.seats.items zeros, c.self.inside.seats.ok.0)) ∙ same

pub invariant_of-self : goal.invariant_of-self
invariant_of-self c = rw (cleared c) (AreOfWalks-zeros length c.self.inside.seats.items)

pub returns : goal.returns
returns c =
    ap (marking_by 1 0) (cleared c) ∙ anew_has_no_marks c.self.inside.walk c.self.inside.board c.self.inside.seats.items ∙ ap (λ m. no_marks (mark_counts m)) c.self.view_is
