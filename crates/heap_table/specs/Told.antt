-- What the rule tells of the word that a step found.
use Rattle.std.specs.Prelude.{◌≡◌, ℕ, IfSome}
use Rattle.atomic_table.specs.Table.{Me}
use Rattle.heap_model.specs.calls.CollectorCalls.{CollectorState, ComesTo}
use Rattle.heap_model.specs.declared.heap.Heap.{Heap}
use Rattle.core_machine.specs.collector.Collector.{Collector, next_turn, collector_after}
use Rattle.core_machine.specs.collector.FitsTurns.{CollectorFits}
use Rattle.core_machine.specs.declared.step.operation.Operation.{Operation}
use Rattle.core_machine.specs.declared.step.operation.Operation.TheVariants.{Store}
use Rattle.core_machine.specs.Moves.{next_move}
use Rattle.core_machine.specs.seat.Fits.{Fits}
use Rattle.core_machine.specs.seat.Seat.{Seat}
use Rattle.core_machine.specs.table.Decode.{FoundPointsWithin}
use Rattle.core_machine.specs.table.Layout.{HasWord}
use Rattle.core_machine.specs.table.Operation.{address_of}
use Rattle.core_rule.specs.cycle.Flight.{WhileAccess}
use Rattle.core_rule.specs.told.Found.{TellsFound}
use Rattle.core_rule.specs.told.Reached.{HasReached}
use Rattle.core_rule.specs.told.Told.{IsAsTold}
use Rattle.heap_table.specs.Begun.{next_seat, NextHasWord}
use Rattle.heap_table.specs.Known.{CollectorKnown}
use Rattle.heap_table.specs.declared.view.View.{View}

-- what is told at a seat's due step: the word found leads within the heap, the seat's data fit together after it, and its next step has its word
pub record ToldAtStep (heap : Heap) (number : ℕ) (seat : Seat) (found : ℕ) : Type 0 where
  pub leads : IfSome (next_move heap number seat) (λ move. FoundPointsWithin heap (address_of move.step) found)
  pub fits : Fits heap (next_seat heap number seat found)
  pub has_word : NextHasWord heap number (next_seat heap number seat found)
  -- what the rule tells of the word found, and of what a call on an object had reached before the step
  pub tells : TellsFound heap number seat found
  -- after the step the seat's data are what its own list tells
  pub own : IsAsTold heap number (next_seat heap number seat found)
  -- and what a call on an object has reached then
  pub comes : WhileAccess (HasReached heap number (next_seat heap number seat found)) (next_seat heap number seat found).point

-- the collector after its due turn that found this word
abbrev pub next_collector : Heap → Collector → ℕ → Collector
next_collector heap collector found = collector_after (next_turn heap collector) found

-- what the collector's holder knows after that turn
abbrev pub next_known : Heap → CollectorKnown → ℕ → CollectorKnown
next_known heap known found = record known { collector = next_collector heap known.collector found }

-- the collector's due turn is on a word that the table has
abbrev pub TurnHasWord : Heap → Collector → Type 0
TurnHasWord heap collector = HasWord heap (address_of (next_turn heap collector).step)

-- contracts see the entries and the phase of a collector with these data
pub record Shows (seen : CollectorState) (collector : Collector) : Type 0 where
  pub log_is : seen.log ≡ collector.log
  pub phase_is : seen.phase ≡ collector.phase

-- the due turn that found this word comes to what a turn of a collector may come to
abbrev pub TurnComesTo : Heap → Collector → ℕ → Type 0
TurnComesTo heap collector found = (old new : CollectorState) → Shows old collector → Shows new (next_collector heap collector found)
    → ComesTo old new ((next_turn heap collector).answer found)

-- what is told at the collector's due turn, likewise
pub record ToldAtTurn (heap : Heap) (collector : Collector) (found : ℕ) : Type 0 where
  pub leads : FoundPointsWithin heap (address_of (next_turn heap collector).step) found
  pub fits : CollectorFits heap (next_collector heap collector found)
  pub has_word : TurnHasWord heap (next_collector heap collector found)
  -- what the turn comes to
  pub comes_to : TurnComesTo heap collector found

-- a step leads to the view that goes with the word found, and tells what goes with it
abbrev pub Tells : (ℕ → View) → (ℕ → Type 0) → Me (Unit {0}) View → ℕ → Me (Unit {0}) View → Type 0
Tells becomes told before found after = (after ≡ (becomes found, before.1)) × told found

-- a store doesn't find its word: what is told of any found word is told of the one that is stored
abbrev pub TellsStored : Operation → (ℕ → Me (Unit {0}) View → Type 0) → Type 0
TellsStored (Store word) tells = (found : ℕ) (after : Me (Unit {0}) View) → tells found after → tells word after
TellsStored _ tells = Unit {0}
