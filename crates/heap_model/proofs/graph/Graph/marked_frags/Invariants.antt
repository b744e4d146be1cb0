use Rattle.std.proofs.Common.{◌≡◌, ◌*◌, ◌≤◌, take, filter}
use Rattle.heap_model.specs.graph.Sizes.{fragments_of_all}
use Rattle.heap_model.specs.graph.Marking.{is_marked}
use Rattle.heap_model.proofs.graph.Graph.marked_frags.Given as goal

abbrev pub invariant-loop-id : goal.invariant-loop-id
invariant-loop-id l = (l.sum ≡ fragments_of_all l.self (filter (is_marked l.marks) (take l.id-index l.ids))) × (l.sum ≤ 4294967295 * l.id-index)
