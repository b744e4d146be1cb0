use Rattle.std.proofs.Common.{◌≡◌, ◌++◌}
use Rattle.std.specs.Prelude.{All}
use Rattle.mutator_seat.specs.Resting.{IsBetweenCalls}
use Rattle.heap_runs.proofs.running_seats.seats_of.Given as goal

-- the seats so far, and then what is left of the holders, all of which are between calls
abbrev pub invariant-loop-holder : goal.invariant-loop-holder
invariant-loop-holder l = (l.seats.items ++ l.holder-iterator.rest.items ≡ l.fn.holders.items) × All IsBetweenCalls l.holder-iterator.rest.items
