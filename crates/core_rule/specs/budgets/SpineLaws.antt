-- The laws of the spine space, of any state and book that meet the rule, and over every run.
use Rattle.std.specs.Prelude.{◌≡◌, ℕ, ◌+◌, ◌*◌, ◌<◌, ◌≤◌, List}
use Rattle.heap_model.specs.declared.entry.Entry.{Entry}
use Rattle.heap_model.specs.declared.heap.Heap.{Heap}
use Rattle.heap_model.specs.Heap.{IsHeap}
use Rattle.core_machine.specs.collector.Collector.{next_turn}
use Rattle.core_machine.specs.declared.point.Making.TheVariants.{Placing}
use Rattle.core_machine.specs.declared.point.Point.TheVariants as points
use Rattle.core_machine.specs.declared.step.CopyingStep.TheVariants.{CopyClaim}
use Rattle.core_machine.specs.declared.step.Step.TheVariants as steps
use Rattle.core_machine.specs.machine.Machine.{State, seat_at, Event, Run, state_after_all, history}
use Rattle.core_machine.specs.machine.Opening.{IsOpening}
use Rattle.core_machine.specs.seat.Seat.{spine_need}
use Rattle.core_rule.specs.Book.{Book}
use Rattle.core_rule.specs.budgets.Budgets.{granted, returned_in_cycle}
use Rattle.core_rule.specs.Rule.{Rule}
use Rattle.core_rule.specs.spines.Spines.{next_spine}
use Rattle.core_rule.specs.Stands.{Stands}

-- the next spine begins within the granted words, and these are within the budget
pub record IsOffsetWithin (heap : Heap) (state : State) (book : Book) : Type 0 where
  pub within : (next_spine heap state.words).offset ≤ granted heap state book
  pub low : granted heap state book ≤ heap.spine
  pub returned : (next_spine heap state.words).offset ≤ granted heap state book + returned_in_cycle book.history
  -- with what the cycle has returned they are within twice the budget
  pub most : granted heap state book + returned_in_cycle book.history ≤ 2 * heap.spine

-- a book with these entries stands for the state, and by it the next spine's place is within those bounds
pub record StandsWithin (heap : Heap) (state : State) (told : List Entry) : Type 0 where
  pub book : Book
  pub tells : book.history ≡ told
  pub stands : Stands heap state book
  pub within : IsOffsetWithin heap state book

-- after every run from the opening the next spine's place is within those bounds
abbrev pub EachOffsetIsWithin : Type 0
EachOffsetIsWithin = (heap : Heap) (state : State) (events : List Event) → IsHeap heap → IsOpening heap state → Run heap state events
    → StandsWithin heap (state_after_all heap state events) (history heap state events)

-- a spine whose words are granted is always placed: they are no more than what is left of the half, as far as the budget goes
abbrev pub EachGrantIsPlaced : Type 0
EachGrantIsPlaced = (heap : Heap) (state : State) (book : Book) (number : ℕ) → Rule heap state book → number < heap.seats → (seat_at state number).point ≡ points.Making Placing
    → (next_spine heap state.words).offset + spine_need (seat_at state number) ≤ heap.spine

-- the copy of a spine always fits into what is left of the half, as far as the budget goes
abbrev pub EachCopyFits : Type 0
EachCopyFits = (heap : Heap) (state : State) (book : Book) (words : ℕ) → Rule heap state book → (next_turn heap state.collector).step ≡ steps.Copying (CopyClaim words)
    → (next_spine heap state.words).offset + words ≤ heap.spine
