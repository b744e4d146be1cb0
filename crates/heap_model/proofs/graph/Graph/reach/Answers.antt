use Rattle.std.proofs.Common.{length, subst}
use Rattle.heap_model.specs.declared.id.Id.TheVariants.{Made}
use Rattle.heap_model.specs.graph.Marking.{IsListed}
use Rattle.heap_model.proofs.graph_lemmas.SearchLemmas.{IsReach-listed}
use Rattle.heap_model.proofs.graph.Graph.reach.Goals as goal

pub returns : goal.returns
returns c =
    IsReach-listed c.args.self.now c.search.new.search c.in_ok-ids.ids.items (c.search.ensures.reached c.in_ok-search.ensures) c.search.ensures.through
    (subst (λ marks. IsListed marks (Made (length c.args.self.now.seats) 0) c.in_ok-ids.ids.items) c.marks.ensures c.in_ok-ids.ensures)
