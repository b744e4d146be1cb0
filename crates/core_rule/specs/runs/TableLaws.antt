-- The laws of the table, of any state and book that meet the rule: each step is on a word that the table has.
use Rattle.std.specs.Prelude.{ℕ, ◌<◌, IfSome}
use Rattle.heap_model.specs.declared.heap.Heap.{Heap}
use Rattle.core_machine.specs.collector.Collector.{next_turn}
use Rattle.core_machine.specs.Moves.{due_step}
use Rattle.core_machine.specs.machine.Machine.{State, seat_at}
use Rattle.core_machine.specs.table.Layout.{HasWord}
use Rattle.core_machine.specs.table.Operation.{address_of}
use Rattle.core_rule.specs.Book.{Book}
use Rattle.core_rule.specs.Rule.{Rule}

-- the step that is due to a seat is on a word of the table, also where that is a spine word
unfoldable pub EachStepHasItsWord : Type 0
EachStepHasItsWord = (heap : Heap) (state : State) (book : Book) (number : ℕ) → Rule heap state book → number < heap.seats
    → IfSome (due_step heap number (seat_at state number)) (λ step. HasWord heap (address_of step))

-- so is that of the collector's next turn
unfoldable pub EachTurnHasItsWord : Type 0
EachTurnHasItsWord = (heap : Heap) (state : State) (book : Book) → Rule heap state book → HasWord heap (address_of (next_turn heap state.collector).step)
