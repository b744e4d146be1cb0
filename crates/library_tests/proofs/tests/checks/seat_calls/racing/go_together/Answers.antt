use Rattle.std.proofs.Common.{sym, ap, subst, ◌∙◌}
use Rattle.heap_model.specs.Logs.{logs_of}
use Rattle.heap_model.specs.declared.heap.Heap.{Heap}
use Rattle.heap_model.specs.graph.Legal.{IsObjectLegal}
use Rattle.library_tests.proofs.tests.checks.seat_calls.racing.go_together.Goals as goal

pub merge-requires-clause-order : goal.merge-requires-clause-order
merge-requires-clause-order g c =
    let one = c.logs-2.ensures.history in
    let same = sym c.heap-heap.ensures in
    record {
      history = one.history;
      legal = subst (λ (h : Heap). IsObjectLegal h one.history) same one.legal.objects;
      kept = c.logs-2.ensures.logs ∙ one.logs_are ∙ ap (λ (h : Heap). logs_of h one.history) same;
    }
