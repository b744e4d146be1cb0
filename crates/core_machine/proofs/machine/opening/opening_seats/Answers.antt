use Rattle.std.proofs.Common.{arith, sym, ◌∙◌, ap, map, ◌++◌, ◌∷◌, [], List}
use Rattle.std.specs.List.{range_with_len}
use Rattle.core_machine.proofs.Terms.{Seat, SeatWithRoom}
use Rattle.std.proofs.lemmas.List.{map-append}
use Rattle.std.proofs.lemmas.List.FromFn.{map-range_with_len_more}
use Rattle.core_machine.specs.machine.Opening.{opening_seat}
use Rattle.core_machine.proofs.machine.opening.opening_seats.Goals as goal

pub loop-number-preserved : goal.loop-number-preserved
loop-number-preserved g c =
    rw (c.in_ok-push.ensures.items)
    (map-append (λ (s : SeatWithRoom). s.seat) c.loop-number.seats.items (c.opening.result ∷ [])
    ∙ ap (λ (l : List Seat). l ++ c.opening.result.seat ∷ []) c.loop-number.invariant
    ∙ ap (λ (s : Seat). map (opening_seat c.args.heap.now) (range_with_len 0 c.loop-number.number) ++ s ∷ []) c.opening.ensures
    ∙ sym (map-range_with_len_more (opening_seat c.args.heap.now) 0 c.loop-number.number c.loop-number.number (omega arith)))
