use Rattle.heap_runs.proofs.Folding.{IsFolding}
use Rattle.heap_runs.proofs.finishing.fold_all.Given as goal

-- the seats that are left lead on to what all lead to
abbrev pub invariant-loop-seat : goal.invariant-loop-seat
invariant-loop-seat l = IsFolding l.fn.collector l.fn.seats.items l.collector l.seat-iterator.rest.items
