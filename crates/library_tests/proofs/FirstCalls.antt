-- A seat that is as at the opening is between two calls.
use Rattle.std.proofs.Common.{◌≡◌, arith, All, ap, sym, subst}
use Rattle.std.proofs.lemmas.List.Elements.{All-nil}
use Rattle.heap_model.specs.calls.SeatLaws.{IsOwn}
use Rattle.heap_model.specs.declared.heap.Heap.{Heap}
use Rattle.core_machine.specs.machine.Opening.{opening_seat}
use Rattle.core_machine.specs.seat.Seat.{Seat}
use Rattle.heap_table.specs.SeatHeld.{SeatHeld}
use Rattle.mutator_seat.specs.Resting.{IsBetweenCalls}

pub first_is_between_calls : (heap : Heap) (held : SeatHeld) → held.seat ≡ opening_seat heap held.number → IsBetweenCalls held
first_is_between_calls heap held opens = record {
  idle = ap (λ (seat : Seat). seat.point) opens;
  own = subst (All (IsOwn held.number)) (sym (ap (λ (seat : Seat). seat.mine) opens)) (All-nil (IsOwn held.number));
  stamps = omega (arith, ap (λ (seat : Seat). seat.sets) opens);
}
