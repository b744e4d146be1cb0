use Rattle.std.proofs.Common.{◌≡◌, List, [], ◌∷◌, ◌++◌, length, map, Result, Ok, refl, sym, ap, ◌∙◌, append-nil, arith}
use Rattle.std.proofs.lemmas.Result.{IfOk-from_err}
use Rattle.heap_model.specs.declared.fault.Memory.{Memory}
use Rattle.heap_table.specs.SeatHeld.{SeatHeld}
use Rattle.heap_queue.proofs.workers.each_seat.Goals as goal

-- one seat more
one_more : (back : List SeatHeld) (seat : SeatHeld) (rest : List (Result SeatHeld Memory)) → map (λ one. Ok one) (back ++ seat ∷ []) ++ rest ≡ map (λ one. Ok one) back ++ Ok seat ∷ rest
one_more [] seat rest = refl
one_more (first ∷ back) seat rest = ap (λ (l : List (Result SeatHeld Memory)). Ok first ∷ l) (one_more back seat rest)

-- nothing is left
none_left : (rest : List (Result SeatHeld Memory)) → length rest ≡ 0 → rest ≡ []
none_left [] none = refl
none_left (one ∷ rest) none = absurd (omega (arith, none))

pub returns-in_err-seat : goal.returns-in_err-seat
returns-in_err-seat c = IfOk-from_err c.from_residual.result _ c.from_residual.ensures.0

pub loop-seat-preserved : goal.loop-seat-preserved
loop-seat-preserved c =
    let back : List SeatHeld = c.loop-seat.back.items in
    let rest : List (Result SeatHeld Memory) = c.next.new.self.rest.items in
    ap (λ (seats : List SeatHeld). map (λ seat. Ok seat) seats ++ rest) c.in_ok-push.ensures.items ∙ one_more back c.in_ok-seat.field-0 rest
    ∙ ap (λ (end : Result SeatHeld Memory). map (λ seat. Ok seat) back ++ end ∷ rest) (sym c.in_ok-seat.was) ∙ ap (λ (ends : List (Result SeatHeld Memory)). map (λ seat. Ok seat) back ++ ends) (sym c.in-Some.ensures.steps.0)
    ∙ c.loop-seat.invariant

pub returns-in_err-push : goal.returns-in_err-push
returns-in_err-push c = IfOk-from_err c.from_residual-in_err-push.result _ c.from_residual-in_err-push.ensures.0

pub returns : goal.returns
returns c =
    let back : List (Result SeatHeld Memory) = map (λ seat. Ok seat) c.loop-seat.back.items in
    let rest = c.loop-seat.seat-iterator.rest in
    sym c.loop-seat.invariant ∙ ap (λ (ends : List (Result SeatHeld Memory)). back ++ ends) (none_left rest.items (sym rest.ok.0 ∙ c.in-None.ensures.steps.0)) ∙ append-nil back
