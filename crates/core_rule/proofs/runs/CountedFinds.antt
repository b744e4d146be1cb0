-- After every run a seat's count is how often it found another one behind.
use Rattle.std.specs.Prelude.{if◌then◌else◌}
use Rattle.std.proofs.Common.{◌≡◌, ℕ, suc, ◌+◌, ◌-◌, ◌^◌, ◌<◌, ◌≤◌, min, Bool, true, false, List, [], ◌∷◌, inl, inr, ap, ◌∙◌, arith}
use Rattle.std.proofs.lemmas.Bool.Decides.{leb_tells}
use Rattle.core_rule.proofs.Terms.{Heap, State, seat_at, Event, state_after, Run, state_after_all, Seat, Book, EachEventKeeps}
use Rattle.heap_model.specs.Heap.{IsHeap}
use Rattle.core_machine.specs.machine.Opening.{IsOpening}
use Rattle.core_rule.specs.looks.Finds.{CountsFind, is_find, finds_in, WaitsAreFinds}
use Rattle.core_rule.specs.Stands.{Stands}
use Rattle.core_rule.proofs.looks.Finds.{looks_follow_event}
use Rattle.core_rule.proofs.runs.OpeningStands.{seat_at_opening}
use Rattle.core_rule.proofs.runs.Runs.{OpeningStands}

-- the count after the event, where it is within 64 bits
counted : (b : Bool) (old new more : ℕ) → CountsFind b old new → old ≤ 2 ^ 64 - 1 → (new ≤ 2 ^ 64 - 1) × (min (new + more) (2 ^ 64 - 1) ≡ min (old + ((if b then 1 else 0) + more)) (2 ^ 64 - 1))
counted true old new more counts small = elim (leb_tells (suc (old + 1)) (2 ^ 64)) as (λ _. (new ≤ 2 ^ 64 - 1) × (min (new + more) (2 ^ 64 - 1) ≡ min (old + (1 + more)) (2 ^ 64 - 1))) [
  | inl few ↦ (let is = counts.0 few.1 in (omega (arith, is, few.1), omega (arith, is)))
  | inr full ↦ (let is = counts.1 (omega (arith, full.1)) in (omega (arith, is, small), omega (arith, is, small, full.1)))
]
counted false old new more counts small = (omega (arith, counts, small), omega (arith, counts))

-- so the count is how often the seat found another one behind
finds_from : EachEventKeeps → (heap : Heap) (state : State) (book : Book) (events : List Event) (number : ℕ) → Stands heap state book → Run heap state events → number < heap.seats
    → (seat_at state number).looks.waits ≤ 2 ^ 64 - 1
    → (seat_at (state_after_all heap state events) number).looks.waits ≡ min ((seat_at state number).looks.waits + finds_in heap state events number) (2 ^ 64 - 1)
finds_from each heap state book [] number stands run below small = omega (arith, small)
finds_from each heap state book (event ∷ events) number stands run below small =
    let next : State = state_after heap state event in
    let first = each heap state book event stands run.0 in
    let one = counted (is_find heap state number event) (seat_at state number).looks.waits (seat_at next number).looks.waits (finds_in heap next events number)
    (looks_follow_event heap state book event number stands run.0 below).counts small in
    finds_from each heap next first.book events number first.stands run.1 below one.0 ∙ one.1

-- from the opening on
pub waits_are_finds : EachEventKeeps → OpeningStands → WaitsAreFinds
unfolding WaitsAreFinds
waits_are_finds each opens heap opening events number limits opened run below =
    let first = opens heap opening limits opened in
    let none : (seat_at opening number).looks.waits ≡ 0 = ap (λ (s : Seat). s.looks.waits) (seat_at_opening heap opening number opened below) in
    finds_from each heap opening first.book events number first.stands run below (omega (arith, none)) ∙ ap (λ n. min n (2 ^ 64 - 1)) (omega (arith, none))

-- what the law says of a run
pub waits_are_capped_finds : WaitsAreFinds → (heap : Heap) (opening : State) (events : List Event) (number : ℕ) → IsHeap heap → IsOpening heap opening → Run heap opening events → number < heap.seats
    → (seat_at (state_after_all heap opening events) number).looks.waits ≡ min (finds_in heap opening events number) (2 ^ 64 - 1)
unfolding WaitsAreFinds
waits_are_capped_finds law = law
