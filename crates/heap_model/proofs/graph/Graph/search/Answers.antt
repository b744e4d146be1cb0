use Rattle.std.proofs.Common.{ap, subst, sym, ◌∙◌}
use Rattle.heap_model.specs.graph.Search.{Search, IsSearch}
use Rattle.heap_model.specs.graph.Marking.{mark_counts}
use Rattle.heap_model.proofs.graph_lemmas.SearchLemmas.{IsSearch-step}
use Rattle.heap_model.proofs.graph.Graph.search.Goals as goal

pub loop-id-preserved : goal.loop-id-preserved
loop-id-preserved c = record {
  reached = λ there. IsSearch-step c.args.self.now c.next.new.self c.in-Some.id _
      (subst (IsSearch c.args.self.now) c.in-Some.ensures.taken (c.loop-id.invariant.reached there))
      c.look_at.ensures.goes_on c.look_at.ensures.found;
  marks = c.look_at.ensures.goes_on.marks_stay ∙ sym (ap (λ (s : Search). mark_counts s.marks) c.in-Some.ensures.taken) ∙ c.loop-id.invariant.marks;
}
