-- The seats of a table that opens.
use Rattle.std.proofs.Common.{◌≡◌, arith, All, ap, sym, subst, ◌∙◌}
use Rattle.std.proofs.lemmas.List.Elements.{All-nil}
use Rattle.heap_model.specs.calls.SeatLaws.{IsOwn}
use Rattle.heap_model.specs.declared.heap.Heap.{Heap}
use Rattle.core_machine.specs.seat.Seat.{Seat}
use Rattle.heap_table.specs.CollectorHeld.{CollectorHeld}
use Rattle.heap_table.specs.Opened.{IsOpened}
use Rattle.heap_table.specs.SeatHeld.{SeatHeld}
use Rattle.mutator_seat.specs.Resting.{IsBetweenCalls}
use Rattle.heap_caller.specs.Parties.{IsOfTable}

module _ (collector : CollectorHeld) (heap : Heap) (held : SeatHeld) (opens : IsOpened collector.table heap held) where
  -- no call is in flight
  pub between_calls : IsBetweenCalls held
  between_calls = record {
    idle = ap (λ (s : Seat). s.point) opens.seat_is;
    own = subst (λ (s : Seat). All (IsOwn held.number) s.mine) (sym opens.seat_is) (All-nil (IsOwn held.number));
    stamps = omega (arith, ap (λ (s : Seat). s.sets) opens.seat_is);
  }

  -- what is made of it is of the collector's table
  pub of_table : (seat : SeatHeld) → seat ≡ held → collector.heap ≡ heap → IsOfTable collector seat
  of_table seat same its = record {
    table_is = ap (λ (h : SeatHeld). h.table) same ∙ opens.table_is;
    heap_is = ap (λ (h : SeatHeld). h.heap) same ∙ opens.heap_is ∙ sym its;
  }
