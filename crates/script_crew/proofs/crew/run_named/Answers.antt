use Rattle.std.proofs.Common.{List, sym, ap, subst, ◌∙◌, arith}
use Rattle.std.specs.Prelude.{All}
use Rattle.std.specs.List.{range_with_len}
use Rattle.atomic_table.specs.Seated.{TableId}
use Rattle.heap_model.specs.declared.entry.Entry.{Entry}
use Rattle.heap_model.specs.declared.heap.Heap.{Heap}
use Rattle.heap_runs.specs.Finishing.{HasGone, HasLogs}
use Rattle.heap_runs.proofs.FewSets.{logs_have_few_sets}
use Rattle.heap_runs.proofs.RunsEnd.{has_logs_from_before}
use Rattle.script_crew.proofs.LeftSeats.{all_gone, few_still, numbers_stay_so, whole_still}
use Rattle.script_crew.proofs.Portions.{then_left}
use Rattle.script_crew.proofs.WholeCrew.{seats_of_all}
use Rattle.script_crew.proofs.crew.run_named.Goals as goal

pub run_jobs-requires-clause-seat : goal.run_jobs-requires-clause-seat
run_jobs-requires-clause-seat g c κs within =
    omega (arith, seats_of_all c.args.seats.items c.args.collector.holder.heap.seats c.requires.crew.numbered, c.args.seats.ok.0, c.heap.ensures.limits.some_seat, ap (λ (h : Heap). h.seats) c.heap.ensures.heap)

pub run_jobs-requires-clause-seats : goal.run_jobs-requires-clause-seats
run_jobs-requires-clause-seats g c κs within =
    omega (arith, seats_of_all c.args.seats.items c.args.collector.holder.heap.seats c.requires.crew.numbered, c.args.seats.ok.0, c.heap.ensures.limits.seats_fit, ap (λ (h : Heap). h.seats) c.heap.ensures.heap)

pub run_jobs-requires-clause-numbered : goal.run_jobs-requires-clause-numbered
run_jobs-requires-clause-numbered g c κs within =
    c.requires.crew.numbered ∙ ap (range_with_len 0) (sym (c.args.seats.ok.0 ∙ seats_of_all c.args.seats.items c.args.collector.holder.heap.seats c.requires.crew.numbered))

pub finish-requires-clause-gone : goal.finish-requires-clause-gone
finish-requires-clause-gone g c =
    let run = c.into_inner-collector.result.of_run in
    let gone = all_gone c.in_ok-seats.field-0.seats.items c.in_ok-gone.gone.items c.in_ok-gone.ensures g.N.HeldName.table g.N.HeldName.heap c.in_ok-seats.ensures.of_table in
    subst (λ (h : Heap). All (HasGone c.into_inner-collector.result.collector.holder.table h) c.in_ok-gone.gone.items) (sym run.heap_is)
    (subst (λ (t : TableId). All (HasGone t g.N.HeldName.heap) c.in_ok-gone.gone.items) (sym run.table_is) gone)

pub finish-requires-clause-numbers : goal.finish-requires-clause-numbers
finish-requires-clause-numbers g c =
    let run = c.into_inner-collector.result.of_run in
    let many = seats_of_all c.args.seats.items c.args.collector.holder.heap.seats c.requires.crew.numbered in
    numbers_stay_so c.in_ok-seats.field-0.seats.items c.in_ok-gone.gone.items c.in_ok-gone.ensures ∙ (c.in_ok-seats.ensures.numbered ∙ ap (range_with_len 0) (many ∙ ap (λ (h : Heap). h.seats) (c.requires.heap ∙ sym run.heap_is)))

pub returns : goal.returns
returns g c =
    let run = c.into_inner-collector.result.of_run in
    let ended = c.in_ok-closed.ensures in
    let ran = c.in_ok-seats.ensures in
    let many = seats_of_all c.args.seats.items c.args.collector.holder.heap.seats c.requires.crew.numbered in
    record {
      of_heap = ended.heap ∙ run.heap_is ∙ sym c.requires.heap;
      seats = c.in_ok-gone.gone.items;
      numbered = numbers_stay_so c.in_ok-seats.field-0.seats.items c.in_ok-gone.gone.items c.in_ok-gone.ensures ∙ (ran.numbered ∙ ap (range_with_len 0) many);
      whole = whole_still c.in_ok-seats.field-0.seats.items c.in_ok-gone.gone.items c.in_ok-gone.ensures c.args.jobs.now c.in_ok-seats.field-0.runs.items ran.whole;
      portions = ran.portions;
      made = then_left c.args.jobs.now c.args.seats.items ran.portions c.in_ok-seats.field-0.seats.items c.in_ok-gone.gone.items ran.made c.in_ok-gone.ensures;
      each_once = ran.each_once;
      logs = subst (λ (l : List Entry). HasLogs c.in_ok-gone.gone.items l c.in_ok-closed.closed) (sym c.requires.before)
          (has_logs_from_before g.N.HeldName.table g.N.HeldName.heap g.N.HeldName.before c.into_inner-collector.result.collector c.in_ok-gone.gone.items c.in_ok-closed.closed run ended.logs);
      few = logs_have_few_sets g.N.HeldName.table g.N.HeldName.heap c.in_ok-gone.gone.items _ c.in_ok-closed.closed (ended.heap ∙ run.heap_is)
          (numbers_stay_so c.in_ok-seats.field-0.seats.items c.in_ok-gone.gone.items c.in_ok-gone.ensures ∙ (ran.numbered ∙ ap (range_with_len 0) (many ∙ ap (λ (h : Heap). h.seats) c.requires.heap)))
          ended.logs (all_gone c.in_ok-seats.field-0.seats.items c.in_ok-gone.gone.items c.in_ok-gone.ensures g.N.HeldName.table g.N.HeldName.heap ran.of_table)
          (few_still c.in_ok-seats.field-0.seats.items c.in_ok-gone.gone.items c.in_ok-gone.ensures ran.few) ended.unused;
      unused = ended.unused;
    }
