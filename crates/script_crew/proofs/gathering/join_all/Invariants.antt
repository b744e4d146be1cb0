use Rattle.std.proofs.Common.{◌≡◌, List, ◌++◌, length, take}
use Rattle.std.specs.Vec.Iter.{into_iter_items}
use Rattle.crossbeam_queue.specs.Passes.{view, IsPassOf}
use Rattle.heap_table.specs.SeatHeld.{SeatHeld}
use Rattle.script_crew.specs.Working.{HaveEnded, HaveRun}
use Rattle.script_crew.proofs.gathering.join_all.Given as goal

abbrev pub invariant-loop-one : goal.invariant-loop-one
invariant-loop-one g l =
    IsPassOf l.site.queue.now l.pass
    × ((olds : List SeatHeld) → HaveEnded l.site.queue.now l.site.jobs.now g.N.HeldName.table g.N.HeldName.heap olds l.fn.done.items
    → HaveRun l.site.jobs.now g.N.HeldName.table g.N.HeldName.heap (take (length l.yielded) olds) (view l.fn.pass) (view l.pass) l.crew)
    × (l.yielded ++ into_iter_items l.one-iterator ≡ l.fn.done.items)
