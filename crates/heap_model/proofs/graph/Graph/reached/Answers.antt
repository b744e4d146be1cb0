use Rattle.heap_model.proofs.graph_lemmas.FoundLemmas.{AreReached-found}
use Rattle.heap_model.proofs.graph.Graph.reached.Goals as goal

pub returns-clause-reached : goal.returns-clause-reached
returns-clause-reached c = λ there.
    rw (c.in_ok-extend_from_slice.ensures.items, c.new-ids.ensures.items) (AreReached-found c.args.self.now c.search.new.search c.found.result.now (c.search.ensures.reached there) c.search.ensures.through c.found.ensures)
