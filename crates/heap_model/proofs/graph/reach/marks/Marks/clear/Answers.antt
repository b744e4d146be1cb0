use Rattle.std.proofs.Common.{ap, ◌∙◌}
use Rattle.heap_model.specs.graph.Marking.{no_marks, mark_counts}
use Rattle.heap_model.specs.graph.Walks.{marking_by}
use Rattle.heap_model.proofs.graph_lemmas.WalkLemmas.{next_walk_has_no_marks}
use Rattle.heap_model.proofs.graph.reach.marks.Marks.clear.Goals as goal

pub returns-in-Some : goal.returns-in-Some
returns-in-Some c =
    ap (λ walk. marking_by walk c.self.inside.board c.self.inside.seats.items) c.in-Some.ensures.1
    ∙ next_walk_has_no_marks c.self.inside.walk c.self.inside.board c.self.inside.seats.items c.self.invariant ∙ ap (λ m. no_marks (mark_counts m)) c.self.view_is
