use Rattle.std.proofs.Common.{filter, ap, ◌∙◌}
use Rattle.heap_model.specs.graph.Sizes.{fragments_of_all}
use Rattle.heap_model.specs.graph.Marking.{is_marked}
use Rattle.heap_model.proofs.graph_lemmas.Among.{marked_are_reached_among}
use Rattle.heap_model.proofs.graph.Graph.reached_frags.Goals as goal

pub returns-clause-sum : goal.returns-clause-sum
returns-clause-sum c = λ there. (
  filter (is_marked c.search.new.search.marks) c.args.ids.now,
  marked_are_reached_among c.args.self.now c.search.new.search c.args.ids.now (c.search.ensures.reached there) c.search.ensures.through,
  c.marked_frags.ensures ∙ ap (λ marks. fragments_of_all c.args.self.now (filter (is_marked marks) c.args.ids.now)) c.marks.ensures,
)
