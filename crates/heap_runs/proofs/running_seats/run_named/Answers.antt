use Rattle.std.proofs.Common.{List, Vec, Global, map, sym, ap, subst, ◌∙◌}
use Rattle.std.specs.Prelude.{All}
use Rattle.std.specs.List.{range_with_len}
use Rattle.atomic_table.specs.Seated.{TableId}
use Rattle.heap_model.specs.declared.command.Command.{Command}
use Rattle.heap_model.specs.declared.entry.Entry.{Entry}
use Rattle.heap_model.specs.declared.heap.Heap.{Heap}
use Rattle.heap_table.specs.SeatHeld.{SeatHeld}
use Rattle.heap_runs.specs.Finishing.{HasGone, HasLogs}
use Rattle.heap_runs.proofs.RunsEnd.{all_have_gone, numbers_stay, has_logs_from_before}
use Rattle.heap_runs.proofs.running_seats.run_named.Goals as goal

pub finish-requires-clause-gone : goal.finish-requires-clause-gone
finish-requires-clause-gone g c =
    let scripts : List (List Command) = map (λ (script : Vec Command Global). script.items) c.args.scripts.now in
    let run = c.into_inner-collector.result.of_run in
    let gone = all_have_gone c.args.patience scripts c.args.paced.collector.holder.table c.args.paced.collector.holder.heap c.args.seats.items c.in_ok-seats.seats.items c.requires.may.ready c.in_ok-seats.ensures in
    subst (λ (h : Heap). All (HasGone c.into_inner-collector.result.collector.holder.table h) c.in_ok-seats.seats.items) (c.requires.heap ∙ sym run.heap_is)
    (subst (λ (t : TableId). All (HasGone t c.args.paced.collector.holder.heap) c.in_ok-seats.seats.items) (c.requires.table ∙ sym run.table_is) gone)

pub finish-requires-clause-numbers : goal.finish-requires-clause-numbers
finish-requires-clause-numbers g c =
    let scripts : List (List Command) = map (λ (script : Vec Command Global). script.items) c.args.scripts.now in
    let run = c.into_inner-collector.result.of_run in
    numbers_stay c.args.patience scripts c.args.paced.collector.holder.table c.args.paced.collector.holder.heap c.args.seats.items c.in_ok-seats.seats.items c.requires.may.ready c.in_ok-seats.ensures
    ∙ c.requires.may.numbers ∙ ap (λ (h : Heap). range_with_len 0 h.seats) (c.requires.heap ∙ sym run.heap_is)

pub returns : goal.returns
returns g c =
    let run = c.into_inner-collector.result.of_run in
    let ended = c.in_ok-closed.ensures in
    record {
      of_heap = ended.heap ∙ run.heap_is ∙ sym c.requires.heap;
      worked = c.in_ok-seats.seats.items;
      have_worked = c.in_ok-seats.ensures;
      logs = subst (λ (l : List Entry). HasLogs c.in_ok-seats.seats.items l c.in_ok-closed.closed) (sym c.requires.before)
          (has_logs_from_before g.N.HeldName.table g.N.HeldName.heap g.N.HeldName.before c.into_inner-collector.result.collector c.in_ok-seats.seats.items c.in_ok-closed.closed run ended.logs);
      counts = c.in_ok-waits.ensures ∙ ap (map (λ (held : SeatHeld). held.seat.looks.waits)) c.as_slice.ensures.value;
      unused = ended.unused;
    }
