-- The seats of a table that opens are between two calls, and each has its box.
use Rattle.std.proofs.Common.{◌≡◌, ℕ, List, [], ◌∷◌, ◌++◌, length, map, All, arith, sym, ap, subst, ◌∙◌, append_assoc}
use Rattle.std.specs.declared.alloc.Global.{Global}
use Rattle.std.specs.declared.boxed.Box.{Box}
use Rattle.std.proofs.lemmas.List.{length-map, map-append}
use Rattle.std.proofs.lemmas.List.Elements.{All-nil, All-rest, All-weaker}
use Rattle.std.proofs.lemmas.List.FromFn.{length-range_with_len}
use Rattle.heap_model.specs.calls.SeatLaws.{IsOwn}
use Rattle.heap_model.specs.declared.heap.Heap.{Heap}
use Rattle.core_machine.specs.seat.Seat.{Seat}
use Rattle.heap_table.specs.CollectorHeld.{CollectorHeld}
use Rattle.heap_table.specs.Opened.{IsOpened}
use Rattle.heap_table.specs.SeatHeld.{SeatHeld}
use Rattle.mutator_seat.specs.Resting.{IsBetweenCalls}
use Rattle.fodderpause_c.specs.Opening.{OpensWith, boxed_in}
use Rattle.fodderpause_c.specs.declared.party.Party.{Party}
use Rattle.fodderpause_c.specs.declared.party.Party.TheVariants.{OfSeat}

between_calls : (collector : CollectorHeld) (heap : Heap) (held : SeatHeld) → IsOpened collector.table heap held → IsBetweenCalls held
between_calls collector heap held opens = record {
  idle = ap (λ (s : Seat). s.point) opens.seat_is;
  own = subst (λ (s : Seat). All (IsOwn held.number) s.mine) (sym opens.seat_is) (All-nil (IsOwn held.number));
  stamps = omega (arith, ap (λ (s : Seat). s.sets) opens.seat_is);
}

-- so is each of them
pub all_between_calls : (collector : CollectorHeld) (heap : Heap) (holders : List SeatHeld) → All (IsOpened collector.table heap) holders → All IsBetweenCalls holders
all_between_calls collector heap holders opened = All-weaker (IsOpened collector.table heap) IsBetweenCalls (between_calls collector heap) holders opened

-- some seats have their boxes, and these are left
pub record IsBoxing (holders rest : List SeatHeld) (boxes : List (Box Party Global)) : Type 0 where
  pub between : All IsBetweenCalls rest
  pub boxed_so : boxed_in boxes ++ map OfSeat rest ≡ map OfSeat holders

-- one more has its box
pub is_boxing_after_next : (holders rest more : List SeatHeld) (held seat : SeatHeld) (boxes now : List (Box Party Global)) (b : Box Party Global) → IsBoxing holders rest boxes → rest ≡ held ∷ more
    → seat ≡ held → b.value ≡ OfSeat seat → now ≡ boxes ++ b ∷ [] → IsBoxing holders more now
is_boxing_after_next holders rest more held seat boxes now b is first same its pushed = record {
  between = All-rest IsBetweenCalls held more rest first is.between;
  boxed_so = ap (λ (l : List (Box Party Global)). boxed_in l ++ map OfSeat more) pushed
      ∙ ap (λ (l : List Party). l ++ map OfSeat more) (map-append (λ (c : Box Party Global). c.value) boxes (b ∷ []))
      ∙ append_assoc (boxed_in boxes) (b.value ∷ []) (map OfSeat more)
      ∙ ap (λ (p : Party). boxed_in boxes ++ p ∷ map OfSeat more) (its ∙ ap (λ (s : SeatHeld). OfSeat s) same)
      ∙ ap (λ (l : List SeatHeld). boxed_in boxes ++ map OfSeat l) (sym first)
      ∙ is.boxed_so;
}

-- there are as many boxes as the heap has seats
pub has_box_each : (heap : Heap) (collector : Party) (boxes : List (Box Party Global)) → OpensWith heap collector (boxed_in boxes) → length boxes ≡ heap.seats
has_box_each heap collector boxes made =
    sym (length-map boxes (λ (b : Box Party Global). b.value)) ∙ ap (λ (l : List Party). length l) made.seats_are ∙ length-map made.all (λ (s : SeatHeld). OfSeat s)
    ∙ sym (length-map made.all (λ (seat : SeatHeld). seat.number)) ∙ ap (λ (l : List ℕ). length l) made.numbers ∙ length-range_with_len 0 heap.seats
