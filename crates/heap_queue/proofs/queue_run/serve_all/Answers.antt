use Rattle.std.proofs.Common.{List, Vec, Global, map, sym, ap, subst, ◌∙◌}
use Rattle.std.specs.Prelude.{All}
use Rattle.std.specs.List.{range_with_len}
use Rattle.atomic_table.specs.Seated.{TableId}
use Rattle.heap_model.specs.declared.entry.Entry.{Entry}
use Rattle.heap_model.specs.declared.heap.Heap.{Heap}
use Rattle.heap_runs.specs.Finishing.{HasGone, HasLogs}
use Rattle.heap_runs.proofs.FewSets.{logs_have_few_sets}
use Rattle.heap_runs.proofs.RunsEnd.{has_logs_from_before}
use Rattle.heap_queue.specs.declared.queue_command.QueueCommand.{QueueCommand}
use Rattle.heap_queue.proofs.ServedSeats.{numbers_stay, all_few, all_gone, all_served, is_queue_history}
use Rattle.heap_queue.proofs.queue_run.serve_all.Goals as goal

pub finish-requires-clause-gone : goal.finish-requires-clause-gone
finish-requires-clause-gone g c =
    let scripts : List (List QueueCommand) = map (λ (script : Vec QueueCommand Global). script.items) c.args.scripts.now in
    let run = c.into_inner-collector.result.of_run in
    let gone = all_gone g.N.HeldName.table g.N.HeldName.heap scripts c.args.seats.items c.in_ok-seats.seats.items c.in_ok-seats.ensures in
    subst (λ (h : Heap). All (HasGone c.into_inner-collector.result.collector.holder.table h) c.in_ok-seats.seats.items) (sym run.heap_is)
    (subst (λ (t : TableId). All (HasGone t g.N.HeldName.heap) c.in_ok-seats.seats.items) (sym run.table_is) gone)

pub finish-requires-clause-numbers : goal.finish-requires-clause-numbers
finish-requires-clause-numbers g c =
    let scripts : List (List QueueCommand) = map (λ (script : Vec QueueCommand Global). script.items) c.args.scripts.now in
    let run = c.into_inner-collector.result.of_run in
    numbers_stay g.N.HeldName.table g.N.HeldName.heap scripts c.args.seats.items c.in_ok-seats.seats.items c.in_ok-seats.ensures
    ∙ (c.requires.numbered ∙ ap (λ (h : Heap). range_with_len 0 h.seats) (c.requires.heap ∙ sym run.heap_is))

pub returns : goal.returns
returns g c =
    let scripts : List (List QueueCommand) = map (λ (script : Vec QueueCommand Global). script.items) c.args.scripts.now in
    let run = c.into_inner-collector.result.of_run in
    let ended = c.in_ok-closed.ensures in
    let seats = c.in_ok-seats.seats.items in
    let numbered = numbers_stay g.N.HeldName.table g.N.HeldName.heap scripts c.args.seats.items seats c.in_ok-seats.ensures ∙ c.requires.numbered in
    let served = all_served g.N.HeldName.table g.N.HeldName.heap scripts c.args.seats.items seats c.in_ok-seats.ensures in
    record {
      of_heap = ended.heap ∙ (run.heap_is ∙ sym c.requires.heap);
      seats = seats;
      numbered = numbered;
      served = served;
      logs = subst (λ (l : List Entry). HasLogs seats l c.in_ok-closed.closed) (sym c.requires.before)
          (has_logs_from_before g.N.HeldName.table g.N.HeldName.heap g.N.HeldName.before c.into_inner-collector.result.collector seats c.in_ok-closed.closed run ended.logs);
      orders = λ history legal same.
          is_queue_history c.args.collector.holder.heap scripts seats numbered served _ history legal (sym ended.logs.logs_are ∙ same) c.requires.some;
      few = logs_have_few_sets g.N.HeldName.table g.N.HeldName.heap seats _ c.in_ok-closed.closed (ended.heap ∙ run.heap_is) (numbered ∙ ap (λ (h : Heap). range_with_len 0 h.seats) c.requires.heap) ended.logs
          (all_gone g.N.HeldName.table g.N.HeldName.heap scripts c.args.seats.items seats c.in_ok-seats.ensures) (all_few g.N.HeldName.table g.N.HeldName.heap scripts c.args.seats.items seats c.in_ok-seats.ensures) ended.unused;
      unused = ended.unused;
    }
