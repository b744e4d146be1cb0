-- What a seat has found out follows its steps: a find counts once, a comparison tells what it finds, and each load of the phase is seen.
use Rattle.std.specs.Prelude.{option_map}
use Rattle.std.proofs.Common.{◌≡◌, ◌==◌, ℕ, ◌<◌, false, Option, Some, None, length, slice_set, slice_index_or, inl, inr, refl, sym, ap, subst}
use Rattle.std.proofs.lemmas.Bool.Decides.{eqb_tells}
use Rattle.std.proofs.lemmas.List.{get_or-set_same, get_or-set_other}
use Rattle.core_rule.proofs.Terms.{Heap, State, seat_at, Event, Begins, BeginsInner, Steps, Turns, Can, after_begin, after_inner_begin, state_after_due, state_after, Move}
use Rattle.core_rule.proofs.Terms.{next_move, due_step, Seat, absent_seat, Book}
use Rattle.core_machine.specs.declared.seat.looks.Looks.{Looks}
use Rattle.core_rule.specs.Stands.{Stands}
use Rattle.core_rule.specs.looks.Finds.{FollowsSteps, step_made, EachEventIsFollowed}
use Rattle.core_rule.proofs.looks.Ways.{stays_found_after_begin}
use Rattle.core_rule.proofs.looks.Follows.{MoveFollows, looks_follow_blind_step}
use Rattle.core_rule.proofs.steps.Seats.{step_kind_of_each_point}

module _ (heap : Heap) (state : State) where
  -- where one seat is another
  other_same : (number other : ℕ) (now : Seat) → (number == other) ≡ false → slice_index_or (slice_set state.seats other now) number absent_seat ≡ seat_at state number
  other_same number other now apart = elim (eqb_tells number other) as (λ _. slice_index_or (slice_set state.seats other now) number absent_seat ≡ seat_at state number) [
    | inl same ↦ absurd (cc (same.0, apart))
    | inr differs ↦ get_or-set_other state.seats other number now absent_seat differs.1
  ]

  -- where one seat is another that has found out the same
  same_looks : (number other : ℕ) (now : Seat) → other < length state.seats → now.looks ≡ (seat_at state other).looks
      → (slice_index_or (slice_set state.seats other now) number absent_seat).looks ≡ (seat_at state number).looks
  same_looks number other now there same = elim (eqb_tells number other) as (λ _. (slice_index_or (slice_set state.seats other now) number absent_seat).looks ≡ (seat_at state number).looks) [
    | inl is ↦ subst (λ n. (slice_index_or (slice_set state.seats other now) n absent_seat).looks ≡ (seat_at state n).looks) (sym is.1)
        (subst (λ (s : Seat). s.looks ≡ (seat_at state other).looks) (sym (get_or-set_same state.seats other now absent_seat there)) same)
    | inr apart ↦ ap (λ (s : Seat). s.looks) (other_same number other now apart.0)
  ]

  -- nothing is found out by an event that is no step of the seat
  unmoved : (old new : Looks) → new ≡ old → FollowsSteps heap state None old new
  unmoved old new same = looks_follow_blind_step heap state None old new tt (ap (λ (l : Looks). l.waits) same) (ap (λ (l : Looks). l.seen) same)

  -- by the seat's own step
  own_step : (number : ℕ) → number < length state.seats → (move : Option Move) → MoveFollows heap state (seat_at state number) move
      → FollowsSteps heap state (option_map (λ m. m.step) move) (seat_at state number).looks (seat_at (state_after_due heap state number move) number).looks
  own_step number there None follows = follows
  own_step number there (Some move) follows =
      subst (λ (s : Seat). FollowsSteps heap state (Some move.step) (seat_at state number).looks s.looks) (sym (get_or-set_same state.seats number _ absent_seat there)) follows

  -- by that of another
  other_step : (number other : ℕ) → (number == other) ≡ false → (move : Option Move) → (seat_at (state_after_due heap state other move) number).looks ≡ (seat_at state number).looks
  other_step number other apart None = refl
  other_step number other apart (Some move) = ap (λ (s : Seat). s.looks) (other_same number other _ apart)

-- each event is followed
pub looks_follow_event : (heap : Heap) (state : State) (book : Book) (event : Event) (number : ℕ) → Stands heap state book → Can heap state event → number < heap.seats
    → FollowsSteps heap state (step_made heap state number event) (seat_at state number).looks (seat_at (state_after heap state event) number).looks
looks_follow_event heap state book (Begins other command) number stands can below =
    let seat : Seat = seat_at state other in
    unmoved heap state _ _ (same_looks heap state number other (after_begin heap seat command) can.0 (stays_found_after_begin heap seat command can.1.idle).looks)
looks_follow_event heap state book (BeginsInner other inner) number stands can below =
    unmoved heap state _ _ (same_looks heap state number other (after_inner_begin (seat_at state other) inner) can.0 refl)
looks_follow_event heap state book (Steps other) number stands can below =
    elim (eqb_tells number other) as (λ _. FollowsSteps heap state (step_made heap state number (Steps other)) (seat_at state number).looks (seat_at (state_after heap state (Steps other)) number).looks) [
      | inl same ↦ rw same.0 (subst (λ n. FollowsSteps heap state (due_step heap number (seat_at state number)) (seat_at state number).looks (seat_at (state_after heap state (Steps n)) number).looks) same.1
          (own_step heap state number (rw stands.rule.machine.seated below) (next_move heap number (seat_at state number))
          ((step_kind_of_each_point (seat_at state number).point).looks.follows heap state number (seat_at state number) (stands.looks number below).compares refl)))
      | inr apart ↦ rw apart.0 (unmoved heap state _ _ (other_step heap state number other apart.0 (next_move heap other (seat_at state other))))
    ]
looks_follow_event heap state book Turns number stands can below = unmoved heap state _ _ refl

-- which the law says
pub each_event_is_followed : EachEventIsFollowed
unfolding EachEventIsFollowed
each_event_is_followed = looks_follow_event
