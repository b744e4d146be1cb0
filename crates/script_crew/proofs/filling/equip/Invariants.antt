use Rattle.std.proofs.Common.{◌≡◌, ◌+◌, ◌-◌, ◌++◌, length, map}
use Rattle.std.specs.Prelude.{All}
use Rattle.std.specs.Vec.Iter.{into_iter_items}
use Rattle.crossbeam_queue.specs.Passes.{view, IsPassOf}
use Rattle.script_crew.specs.Positions.{tally}
use Rattle.script_crew.specs.Working.{HasFreshPass}
use Rattle.script_crew.proofs.filling.equip.Given as goal

abbrev pub invariant-loop-seat : goal.invariant-loop-seat
invariant-loop-seat l =
    IsPassOf l.queue l.pass × (view l.pass ≡ tally ((view l.fn.pass).shares - length l.yielded) (view l.fn.pass).pushed (view l.fn.pass).popped (view l.fn.pass).known)
    × (length l.yielded + length (into_iter_items l.seat-iterator) ≡ length l.fn.seats.items) × (map (λ worker. worker.seat) l.workers.items ++ into_iter_items l.seat-iterator ≡ l.fn.seats.items)
    × All (HasFreshPass l.queue (view l.fn.pass).known) l.workers.items
