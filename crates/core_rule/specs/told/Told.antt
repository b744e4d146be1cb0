-- What a seat has of its own is what its own list tells, whatever the others do.
use Rattle.std.specs.Prelude.{◌≡◌, ℕ, ◌+◌, ◌<◌, length}
use Rattle.heap_model.specs.account.PhaseCounts.{last_answer}
use Rattle.heap_model.specs.account.Space.{taken_of, spent_of}
use Rattle.heap_model.specs.calls.SeatState.{SeatState, own_graph_seat, held_value}
use Rattle.heap_model.specs.declared.heap.Heap.{Heap}
use Rattle.core_machine.specs.machine.Machine.{State, seat_at}
use Rattle.core_machine.specs.seat.Commands.{target_of}
use Rattle.core_machine.specs.seat.Registers.{register_in, value_of}
use Rattle.core_machine.specs.seat.Seat.{Seat}
use Rattle.core_rule.specs.Book.{Book}
use Rattle.core_rule.specs.hand.Holding.{fragments_in_hand}
use Rattle.core_rule.specs.graph.Registers.{IsAwaited}
use Rattle.core_rule.specs.Rule.{Rule}

-- the seat as its own list tells of it; for how many more entries there is room doesn't matter
abbrev pub own_state : Heap → ℕ → Seat → SeatState
own_state heap number seat = record { heap = heap; number = number; mine = seat.mine; spare = 0 }

-- the seat's registers, counts and last answer are those of its own list, but for a register whose object's name is awaited
pub record IsAsTold (heap : Heap) (number : ℕ) (seat : Seat) : Type 0 where
  pub registers : (r : ℕ) → ¬ IsAwaited seat.point (target_of seat.command) r → value_of (register_in seat.registers r) ≡ held_value (own_state heap number seat) r
  pub made : seat.made ≡ length (own_graph_seat (own_state heap number seat)).objects
  pub sets : seat.sets ≡ (own_graph_seat (own_state heap number seat)).sets
  pub left : seat.left ≡ (own_graph_seat (own_state heap number seat)).left
  pub answered : seat.answered ≡ last_answer number seat.mine
  pub unborn : length seat.reserve + length (fragments_in_hand seat.hand seat.body) + spent_of number seat.mine ≡ taken_of number seat.mine

-- by the rule each seat's data are what its own list tells
unfoldable pub EachSeatIsAsTold : Type 0
EachSeatIsAsTold = (heap : Heap) (state : State) (book : Book) (number : ℕ) → Rule heap state book → number < heap.seats → IsAsTold heap number (seat_at state number)
