use Rattle.std.proofs.Common.{ap, ◌∙◌}
use Rattle.heap_table.specs.SeatHeld.{SeatHeld}
use Rattle.heap_runs.specs.Finishing.{folded_in}
use Rattle.heap_runs.proofs.Folding.{is_folding_after_next}
use Rattle.heap_runs.proofs.finishing.fold_all.Goals as goal

pub loop-seat-preserved : goal.loop-seat-preserved
loop-seat-preserved c =
    let now = c.loop-seat in
    is_folding_after_next c.args.collector.now c.args.seats.items now.collector c.fold_in.new.self c.in-Some.seat now.seat-iterator.rest.items c.next.new.self.rest.items now.invariant c.in-Some.ensures.steps.0
    (c.fold_in.ensures ∙ ap (λ (held : SeatHeld). record now.collector { known = folded_in now.collector.known held }) c.into_holder.ensures.held)
