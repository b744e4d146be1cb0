use Rattle.std.proofs.Common.{take}
use Rattle.heap_model.specs.graph.Reach.{PointsTo}
use Rattle.heap_model.proofs.graph_lemmas.NoteLemmas.{HasNoted}
use Rattle.heap_model.proofs.graph.reach.search.Search.note_object.Given as goal

abbrev pub invariant-loop-cell : goal.invariant-loop-cell
invariant-loop-cell l = HasNoted (λ cell. cell.value) (PointsTo l.object) l.initial.self l.self (take l.cell-index l.cell-items)
