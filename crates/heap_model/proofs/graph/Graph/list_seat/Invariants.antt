use Rattle.heap_model.specs.declared.id.Id.TheVariants.{Made}
use Rattle.heap_model.specs.graph.Marking.{IsListed}
use Rattle.heap_model.proofs.graph.Graph.list_seat.Given as goal

abbrev pub invariant-loop-count : goal.invariant-loop-count
invariant-loop-count l = IsListed l.marks (Made l.seat l.count) l.ids.items
