-- The seats of a machine that has just been opened.
use Rattle.std.proofs.Common.{◌≡◌, ℕ, ◌<◌, List, length, refl, sym, ap, subst, ◌∙◌, arith}
use Rattle.std.proofs.lemmas.List.FromFn.{length-map-range_with_len, get_or-map-range_with_len}
use Rattle.core_rule.proofs.Terms.{Heap, State, seat_at, Seat, absent_seat, AllIdle}
use Rattle.core_machine.specs.declared.point.Point.TheVariants.{Idle}
use Rattle.core_machine.specs.machine.Opening.{IsOpening, opening_seat}

-- each of its seats is as at the opening
pub holds_of_opened_seats : (heap : Heap) (state : State) → IsOpening heap state → (P : Seat → Type 0) → (number : ℕ) → number < heap.seats → P (opening_seat heap number) → P (seat_at state number)
holds_of_opened_seats heap state opens P number below holds =
    subst (λ (seats : List Seat). P (seat_at (record state { seats = seats }) number)) (sym opens.seats_open)
    (subst P (sym (get_or-map-range_with_len (opening_seat heap) 0 heap.seats number number absent_seat below (omega arith))) holds)

-- there are the heap's
pub seats_opened : (heap : Heap) (state : State) → IsOpening heap state → length state.seats ≡ heap.seats
seats_opened heap state opens = ap (length {A = Seat}) opens.seats_open ∙ length-map-range_with_len (opening_seat heap) 0 heap.seats

-- none has a call in flight
pub opened_is_all_idle : (heap : Heap) (state : State) → IsOpening heap state → AllIdle state
opened_is_all_idle heap state opens number below =
    holds_of_opened_seats heap state opens (λ (t : Seat). t.point ≡ Idle) number (omega (arith, below, seats_opened heap state opens)) refl
