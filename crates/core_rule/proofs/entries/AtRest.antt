-- A seat with a call in flight and nothing at hand: it hasn't left, and what it has of its own is little.
use Rattle.std.proofs.Common.{◌≡◌, ◌≢◌, ℕ, ◌+◌, ◌<◌, ◌≤◌, false, [], length, subst, arith}
use Rattle.std.proofs.lemmas.Bool.{false_from_ne_true}
use Rattle.core_rule.proofs.Terms.{Heap, taken_of, spent_of, Point, Fits, IsAtRest, SeatIsRefusing, State, seat_at, Seat, Book, IsAwaited, Rule}
use Rattle.core_machine.specs.declared.point.Point.TheVariants as points
use Rattle.core_rule.proofs.hand.Bodies.{bare_seat_holds_reserve}

-- each seat's own data fit together, as the machine says
pub seat_fits : {heap : Heap} {state : State} {book : Book} → Rule heap state book → (number : ℕ) → number < heap.seats → Fits heap (seat_at state number)
seat_fits rule number here = rule.machine.fit number (rw rule.machine.seated here)

-- a seat with a call in flight hasn't left
pub in_flight_has_not_left : {heap : Heap} {state : State} {book : Book} → Rule heap state book → (number : ℕ) → number < heap.seats → (seat_at state number).point ≢ points.Idle → (seat_at state number).left ≡ false
in_flight_has_not_left {heap} {state} rule number here busy = false_from_ne_true (seat_at state number).left (λ left. busy ((seat_fits rule number here).gone left).idle)

-- a point at which no name is awaited
pub point_awaits_none : (point now : Point) (d r : ℕ) → point ≡ now → ¬ IsAwaited now d r → ¬ IsAwaited point d r
point_awaits_none point now d r is none awaited = none (subst (λ p. IsAwaited p d r) is awaited)

-- a seat with nothing at hand has little, and spent no more than it took
module _ (heap : Heap) (state : State) (book : Book) (number : ℕ) (rule : Rule heap state book) (here : number < heap.seats) (rest : IsAtRest (seat_at state number)) where
  pub reserve_and_spent_is_taken : length (seat_at state number).reserve + spent_of number book.history ≡ taken_of number book.history
  reserve_and_spent_is_taken =
      let seat : Seat = seat_at state number in
      bare_seat_holds_reserve seat.reserve seat.hand seat.body (spent_of number book.history) (taken_of number book.history) rest.empty_hand rest.no_body (rule.seats_stand number here).told.counts.unborn

  pub spent_within_taken : spent_of number book.history ≤ taken_of number book.history
  spent_within_taken = omega (arith, reserve_and_spent_is_taken)

  pub taken_is_few_unspent : taken_of number book.history ≤ spent_of number book.history + 15
  taken_is_few_unspent = omega (arith, reserve_and_spent_is_taken, (seat_fits rule number here).own.small_reserve)

-- nor has one that refuses, once it has given all back
pub refusing_reserve_is_taken : (heap : Heap) (state : State) (book : Book) (number : ℕ) → Rule heap state book → number < heap.seats → SeatIsRefusing heap (seat_at state number) × ((seat_at state number).hand ≡ [])
    → length (seat_at state number).reserve + spent_of number book.history ≡ taken_of number book.history
refusing_reserve_is_taken heap state book number rule here refuses =
    let seat : Seat = seat_at state number in
    bare_seat_holds_reserve seat.reserve seat.hand seat.body (spent_of number book.history) (taken_of number book.history) refuses.1 refuses.0.no_body (rule.seats_stand number here).told.counts.unborn
