use Rattle.std.proofs.Common.{sym, ap, subst, ◌∙◌}
use Rattle.std.specs.Prelude.{All}
use Rattle.std.specs.List.{range_with_len}
use Rattle.heap_model.specs.Heap.{IsHeap}
use Rattle.heap_model.specs.declared.heap.Heap.{Heap}
use Rattle.heap_table.specs.CollectorHeld.{CollectorHeld}
use Rattle.heap_runs.specs.Finishing.{HasGone, HasLogs}
use Rattle.heap_runs.proofs.Finished.{heap_stays_the_same, all_are_folded, has_logs_of_all, ends_unused_at_last}
use Rattle.heap_runs.proofs.finishing.finish.Goals as goal

pub close-requires : goal.close-requires
close-requires g c =
    let start = c.into_holder-holder.result in
    all_are_folded start c.fold_all.new.collector c.into_holder.result c.args.seats.items c.make-collector.result c.end_whole_cycle.new.collector
    (subst IsHeap c.heap.ensures.heap c.heap.ensures.limits) (c.heap.ensures.seat_slots ∙ ap (λ (h : Heap). h.seats) c.heap.ensures.heap)
    (c.requires.numbers ∙ ap (λ (h : CollectorHeld). range_with_len 0 h.heap.seats) (sym c.into_holder-holder.ensures)) c.fold_all.ensures c.make-collector.ensures
    c.in_ok-end_whole_cycle.ensures c.into_holder.ensures

pub returns-clause-heap : goal.returns-clause-heap
returns-clause-heap g c =
    let start = c.into_holder-holder.result in
    c.in_ok-closed.ensures.heap ∙ heap_stays_the_same start c.fold_all.new.collector c.into_holder.result c.args.seats.items c.make-collector.result c.end_whole_cycle.new.collector
    (subst IsHeap c.heap.ensures.heap c.heap.ensures.limits) (c.heap.ensures.seat_slots ∙ ap (λ (h : Heap). h.seats) c.heap.ensures.heap)
    (c.requires.numbers ∙ ap (λ (h : CollectorHeld). range_with_len 0 h.heap.seats) (sym c.into_holder-holder.ensures)) c.fold_all.ensures c.make-collector.ensures
    c.in_ok-end_whole_cycle.ensures c.into_holder.ensures ∙ ap (λ (h : CollectorHeld). h.heap) c.into_holder-holder.ensures

pub returns-clause-logs : goal.returns-clause-logs
returns-clause-logs g c =
    let start = c.into_holder-holder.result in
    subst (λ (h : CollectorHeld). HasLogs c.args.seats.items h.known.collector.log c.in_ok-closed.closed) c.into_holder-holder.ensures
    (has_logs_of_all start c.fold_all.new.collector c.into_holder.result c.args.seats.items c.make-collector.result c.end_whole_cycle.new.collector
    (subst IsHeap c.heap.ensures.heap c.heap.ensures.limits) (c.heap.ensures.seat_slots ∙ ap (λ (h : Heap). h.seats) c.heap.ensures.heap)
    (c.requires.numbers ∙ ap (λ (h : CollectorHeld). range_with_len 0 h.heap.seats) (sym c.into_holder-holder.ensures)) c.fold_all.ensures c.make-collector.ensures
    c.in_ok-end_whole_cycle.ensures c.into_holder.ensures c.in_ok-closed.closed c.in_ok-closed.ensures.logs)

pub returns-clause-unused : goal.returns-clause-unused
returns-clause-unused g c =
    let start = c.into_holder-holder.result in
    let closed = c.in_ok-closed in
    ends_unused_at_last start c.fold_all.new.collector c.into_holder.result c.args.seats.items c.make-collector.result c.end_whole_cycle.new.collector
    (subst IsHeap c.heap.ensures.heap c.heap.ensures.limits) (c.heap.ensures.seat_slots ∙ ap (λ (h : Heap). h.seats) c.heap.ensures.heap)
    (c.requires.numbers ∙ ap (λ (h : CollectorHeld). range_with_len 0 h.heap.seats) (sym c.into_holder-holder.ensures)) c.fold_all.ensures c.make-collector.ensures
    c.in_ok-end_whole_cycle.ensures c.into_holder.ensures closed.closed closed.ensures.logs c.law_sweep_exact.ensures.balanced closed.ensures.history closed.ensures.heap closed.ensures.folded
    (subst (λ (h : CollectorHeld). All (HasGone h.table h.heap) c.args.seats.items) (sym c.into_holder-holder.ensures) c.requires.gone)
