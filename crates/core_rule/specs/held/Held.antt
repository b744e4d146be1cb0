-- What is held: what a seat owns, what its registers and its call name, and all that this leads to.
use Rattle.std.specs.Prelude.{◌≡◌, ℕ, ◌+◌, ◌<◌, ◌≤◌, ◌⊎◌, Some}
use Rattle.heap_model.specs.declared.heap.Heap.{Heap}
use Rattle.core_machine.specs.declared.point.Point.{Point}
use Rattle.core_machine.specs.declared.point.Point.TheVariants as points
use Rattle.core_machine.specs.declared.point.Access.{Access}
use Rattle.core_machine.specs.declared.point.Access.TheVariants.{Naming}
use Rattle.core_machine.specs.machine.Machine.{State, seat_at}
use Rattle.core_machine.specs.seat.Commands.{target_of}
use Rattle.core_machine.specs.seat.Registers.{register_in, register_head}
use Rattle.core_machine.specs.seat.Seat.{Seat}
use Rattle.heap_words.specs.Loaded.{head_of}
use Rattle.core_machine.specs.table.Fragments.{tally}
use Rattle.core_rule.specs.words.ControlWords.{IsBorn}
use Rattle.core_rule.specs.marking.Paths.{Edge}
use Rattle.core_rule.specs.graph.Registers.{IsAwaited}

-- the seat owns the fragment: it is in its reserve, in its hand, or in the body of the object that it makes
abbrev pub OwnsFragment : Seat → ℕ → Type 0
OwnsFragment seat f = 1 ≤ tally f seat.reserve + tally f seat.hand + tally f seat.body

-- a register holds the object that begins with this fragment; one that awaits the name of another object doesn't count
pub record IsInRegister (seat : Seat) (f : ℕ) : Type 0 where
  pub register : ℕ
  pub counts : ¬ IsAwaited seat.point (target_of seat.command) register
  pub holds : register_head (register_in seat.registers register) ≡ Some f

-- a call on a field holds what it has reached and the object that it has loaded; while it awaits a name, that object alone
abbrev pub AccessHolds : Seat → Access → ℕ → Type 0
AccessHolds seat Naming f = head_of seat.loaded ≡ Some f
AccessHolds seat _ f = (f ≡ seat.reached) ⊎ (head_of seat.loaded ≡ Some f)

-- a call on a field holds what it has reached and loaded, and no other call holds anything
abbrev pub CallHolds : Seat → Point → ℕ → Type 0
CallHolds seat (points.Access point) f = AccessHolds seat point f
CallHolds seat _ f = ⊥

-- a seat holds what it owns, what its registers hold, and what its call holds
abbrev pub SeatHolds : Seat → ℕ → Type 0
SeatHolds seat f = OwnsFragment seat f ⊎ (IsInRegister seat f ⊎ CallHolds seat seat.point f)

-- a fragment is held where one of the heap's seats holds it, or where a source of a held and born fragment leads to it
pub data IsHeld (heap : Heap) (state : State) : ℕ → Type 0 where
  by_seat : (number f : ℕ) → number < heap.seats → SeatHolds (seat_at state number) f → IsHeld heap state f
  by_word : (f g : ℕ) → IsHeld heap state f → IsBorn heap state.words f → Edge heap state.words f g → IsHeld heap state g
