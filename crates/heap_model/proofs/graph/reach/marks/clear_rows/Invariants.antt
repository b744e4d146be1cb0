use Rattle.std.proofs.Common.{◌≡◌, ◌++◌, map, take, drop}
use Rattle.heap_model.proofs.graph_lemmas.WalkLemmas.{zeros}
use Rattle.heap_model.proofs.graph.reach.marks.clear_rows.Given as goal

abbrev pub invariant-loop-seat : goal.invariant-loop-seat
invariant-loop-seat l = l.rows ≡ map zeros (take l.seat l.fn.rows) ++ drop l.seat l.fn.rows
