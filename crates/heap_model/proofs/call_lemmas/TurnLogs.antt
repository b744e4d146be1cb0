-- What one turn adds to the collector's log.
use Rattle.std.proofs.Common.{◌+◌, ◌≤◌, [], ◌∷◌, length, inl, inr, ap, arith, length-append}
use Rattle.heap_model.specs.declared.entry.Entry.{Entry}
use Rattle.heap_model.specs.declared.entry.Entry.TheVariants.{Ends}
use Rattle.heap_model.specs.declared.calls.collector_calls.Turn.{Turn}
use Rattle.heap_model.specs.declared.calls.collector_calls.Turn.TheVariants as turns
use Rattle.heap_model.specs.calls.CollectorCalls.{CollectorState, ComesTo}

-- a turn adds one entry at most
pub few_added : (old new : CollectorState) (turn : Turn) → ComesTo old new turn → length new.log ≤ length old.log + 1
few_added old new turns.Stepped (inl none) = omega (arith, ap (length {A = Entry}) none.0)
few_added old new turns.Stepped (inr steps) = omega (arith, ap (length {A = Entry}) steps.2, length-append old.log (steps.0 ∷ []))
few_added old new (turns.Waits number answer p) comes = omega (arith, ap (length {A = Entry}) comes.0.0)
few_added old new (turns.Ended cycle kept) comes = omega (arith, ap (length {A = Entry}) comes.0, length-append old.log (Ends cycle kept ∷ []))
