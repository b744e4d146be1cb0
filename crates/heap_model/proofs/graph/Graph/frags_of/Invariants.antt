use Rattle.std.proofs.Common.{◌≡◌, ◌*◌, ◌≤◌, take, sum_by}
use Rattle.heap_model.specs.graph.Sizes.{fragments_at}
use Rattle.heap_model.proofs.graph.Graph.frags_of.Given as goal

abbrev pub invariant-loop-id : goal.invariant-loop-id
invariant-loop-id l = (l.sum ≡ sum_by (fragments_at l.self) (take l.id-index l.ids)) × (l.sum ≤ 4294967295 * l.id-index)
