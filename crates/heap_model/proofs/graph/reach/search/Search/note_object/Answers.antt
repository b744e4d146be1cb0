use Rattle.heap_model.specs.graph.Reach.{PointsTo}
use Rattle.heap_model.specs.graph.Marking.{IsFound}
use Rattle.heap_model.proofs.graph_lemmas.NoteLemmas.{has_noted_next, cell_lead_is_pointed_to, All-taken}
use Rattle.heap_model.proofs.graph.reach.search.Search.note_object.Goals as goal

pub loop-cell-preserved : goal.loop-cell-preserved
loop-cell-preserved c =
    has_noted_next (λ cell. cell.value) (PointsTo c.args.object.now) c.cells-cell-items.result.now c.loop-cell.cell-index _ c.loop-cell-test.true
    (cell_lead_is_pointed_to c.args.object.now c.cells-cell-items.result.now c.loop-cell.cell-index _ c.cells-cell-items.ensures c.loop-cell-test.true) c.loop-cell.invariant c.note.ensures.goes_on c.note.ensures.found

pub returns-clause-found : goal.returns-clause-found
returns-clause-found c =
    All-taken (λ cell. IsFound c.loop-cell.self.marks cell.value) _ _ c.loop-cell.cell-index c.cells-cell-items.ensures c.loop-cell-test.false c.loop-cell.invariant.found
