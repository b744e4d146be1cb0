use Rattle.std.proofs.Common.{refl, ap, subst}
use Rattle.locked_heap.specs.Locked.{LockedValue}
use Rattle.heap_record.specs.Recorded.{Recorded}
use Rattle.locked_heap.proofs.TurnsOn.{EndsWhole, turns_end_whole}
use Rattle.locked_heap.proofs.Whole.{run_is_as_asked}
use Rattle.locked_heap.proofs.locked.Locked.finish.Goals as goal

pub returns : goal.returns
returns g c =
    let law = c.law_every_run.ensures in
    run_is_as_asked law.run law.words law.finds c.law_sweep_exact.ensures.emptied g.N.Handed.given c.finish_all.new.self c.end_whole_cycle.new.collector _ c.known.ensures.run c.known.ensures.come c.in_ok-finish_all.ensures
    c.known.ensures.parted (subst (λ (r : Recorded). EndsWhole r c.end_whole_cycle.new.collector) (ap (λ (v : LockedValue). v.recorded) c.self.view_is) (turns_end_whole _ c.end_whole_cycle.new.collector c.in_ok-end_whole_cycle.ensures)) c.into_entries.ensures refl c.in_ok-waits.ensures
