use Rattle.std.proofs.Common.{◌∙◌, map, subst}
use Rattle.heap_model.specs.graph.Legal.{IsObjectLegal}
use Rattle.log_merge.proofs.merge_lemmas.MergerLemmas.{IsObjectLegal-placed}
use Rattle.log_merge.proofs.merging.merger.Merger.place_all.Goals as goal

pub returns-clause-legal : goal.returns-clause-legal
returns-clause-legal c =
    let m = c.place_first.new.self in
    subst (λ heap. IsObjectLegal heap m.placed.items) (c.in_ok-place_first.ensures.heap ∙ c.loop-self.invariant.heap)
    (IsObjectLegal-placed (map (λ log. log.items) c.args.logs.now) m c.in_ok-place_first.ensures.placed)
