use Rattle.heap_model.specs.declared.id.Id.TheVariants.{Made}
use Rattle.heap_model.specs.graph.Marking.{IsListed}
use Rattle.heap_model.proofs.graph.Graph.list.Given as goal

abbrev pub invariant-loop-seat : goal.invariant-loop-seat
invariant-loop-seat l = IsListed l.marks (Made l.seat 0) l.ids.items
