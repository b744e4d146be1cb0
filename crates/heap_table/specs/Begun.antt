-- How far a seat's data are ahead of its view: by the begin of a call, which makes no step.
use Rattle.std.specs.Prelude.{◌≡◌, ℕ, IfSome}
use Rattle.heap_model.specs.declared.heap.Heap.{Heap}
use Rattle.heap_model.specs.declared.command.Command.{Command}
use Rattle.heap_model.specs.declared.calls.collect.Inner.{Inner}
use Rattle.core_machine.specs.machine.Machine.{MayBegin, MayBeginInner, after_begin, after_inner_begin}
use Rattle.core_machine.specs.Moves.{next_move, due_step, seat_after_due}
use Rattle.core_machine.specs.seat.Seat.{Seat}
use Rattle.core_machine.specs.table.Layout.{HasWord}
use Rattle.core_machine.specs.table.Operation.{address_of}

-- the seat is as it was, or as it was with a call begun
pub data MayHaveBegun (heap : Heap) (number : ℕ) (old seat : Seat) : Type 0 where
  Same : seat ≡ old → MayHaveBegun heap number old seat
  Begun : (command : Command) → MayBegin old command → seat ≡ after_begin heap old command → MayHaveBegun heap number old seat
  BegunInner : (inner : Inner) → MayBeginInner heap number old inner → seat ≡ after_inner_begin old inner → MayHaveBegun heap number old seat

-- the seat after its due step that found this word
abbrev pub next_seat : Heap → ℕ → Seat → ℕ → Seat
next_seat heap number seat found = seat_after_due seat (next_move heap number seat) found

-- the seat's due step is on a word that the table has
abbrev pub StepHasWord : Heap → ℕ → Seat → Type 0
StepHasWord heap number seat = IfSome (due_step heap number seat) (λ step. HasWord heap (address_of step))

-- so it is also where a call is begun first
abbrev pub NextHasWord : Heap → ℕ → Seat → Type 0
NextHasWord heap number old = (seat : Seat) → MayHaveBegun heap number old seat → StepHasWord heap number seat
