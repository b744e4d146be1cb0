-- How an array asks for its spine words, and how its spine is made.
use Rattle.std.proofs.Common.{◌≡◌, ℕ, ◌+◌, ◌<◌, [], length, refl, ap, arith}
use Rattle.heap_words.specs.Spot.{spot_in}
use Rattle.core_machine.proofs.Terms.{Array, Heap, grant_move, withdraw_move, placing_move, listing_move, Granting, Withdrawing, Placing, Listing, found_by, entries_awaited, Fits}
use Rattle.core_machine.proofs.Terms.{FitsMaking, HasArrayBody, SeatIsGranting, after_budget, after_listing, list_point, Seat, spine_need, with_entries, owes_making, making_steps}
use Rattle.core_machine.proofs.Terms.{Nears}
use Rattle.core_machine.specs.declared.point.Point.TheVariants as points
use Rattle.core_machine.proofs.call_lemmas.Awaits.{adds_where_none_awaited, after_words, own_list_same_going_on}
use Rattle.core_machine.proofs.moves.Gather.{nears_gathered, going_on_awaits_none}
use Rattle.core_machine.proofs.moves.Standing.{PointStands, CommandStands, call_point_has_not_left, point_is_aside, ready_is_aside, ready_is_at_rest, resting_begin_stands}
use Rattle.core_machine.proofs.seat_lemmas.Aside.{IsAside, left_aside_is_absurd, fits_after_call, fits_with_spine}
use Rattle.core_machine.proofs.seat_lemmas.Fitting.{object_need_within_limits, array_words_within_limits, spine_is_all_listed, budget_cases, listing_cases, fits_going_on, gathered_at_rest}
use Rattle.core_machine.proofs.table_lemmas.StepStands.{budget_add_step_stands, take_back_step_stands, spot_claim_step_stands, spine_store_step_stands}

-- the spine words were asked for
fits_granted : (heap : Heap) (seat : Seat) (found : ℕ) → Fits heap seat → IsAside heap seat → SeatIsGranting seat → Fits heap (after_budget heap seat found)
fits_granted heap seat found fits aside is =
    let rest = is.0 in
    budget_cases (Fits heap) heap seat found
    (λ lacks. fits_with_spine heap seat found seat.spine seat.listed (points.Making Withdrawing) fits aside fits.hand.spine_within
    (record {
      makes = is.1;
      an_array = is.2;
      rests = record {
        empty_hand = rest.empty_hand;
        no_body = rest.no_body;
        none_stored = rest.none_stored;
        none_tried = rest.none_tried;
        none_given = rest.none_given;
        no_spine = record { none_used = refl; no_place = rest.no_spine.no_place; none_listed = rest.no_spine.none_listed };
      };
      too_many = lacks;
    }) aside.nowhere aside.silent)
    (λ grants. fits_going_on heap seat (gathered_at_rest heap seat fits.own aside rest is.1))

nears_granted : (heap : Heap) (seat : Seat) (found : ℕ) → SeatIsGranting seat
    → Nears heap (with_entries (after_budget heap seat found) []) (owes_making seat Granting) (making_steps heap seat Granting) 0
nears_granted heap seat found is =
    let some = object_need_within_limits seat.command is.1.an_object is.1.in_range in
    budget_cases (λ s. Nears heap (with_entries s []) (owes_making seat Granting) (making_steps heap seat Granting) 0) heap seat found
    (λ lacks. record { fewer = omega (arith, some.0); paid = omega (arith, some.0) })
    (λ grants. nears_gathered heap seat [] (owes_making seat Granting) (making_steps heap seat Granting) is.1 is.0.none_stored (omega arith) (omega (arith, some.0)) (λ lacks. omega arith))

-- they are asked for
pub point_stands_at_granting : PointStands (points.Making Granting)
point_stands_at_granting heap number seat here =
    let move = grant_move heap number seat in
    record {
      step = budget_add_step_stands heap (spine_need seat);
      fits = λ found small led. fits_granted heap seat found here.fits (point_is_aside heap number seat (points.Making Granting) here (λ e. cc) here.way here.answer) here.hand;
      near = λ found. nears_granted heap seat found here.hand;
      adds = λ now. let found = found_by heap now move.step in
          let words = after_words heap now number seat move in
          adds_where_none_awaited heap now number seat move (budget_cases (λ s. s.mine ≡ seat.mine) heap seat found (λ lacks. refl) (λ grants. own_list_same_going_on heap seat)) (rw here.point_is refl)
          (budget_cases (λ s. entries_awaited heap words number (with_entries s []) ≡ []) heap seat found (λ lacks. refl) (λ grants. going_on_awaits_none heap words number seat [])) refl;
    }

-- they are taken back, and the refusal is told
pub point_stands_at_withdrawing : PointStands (points.Making Withdrawing)
point_stands_at_withdrawing heap number seat here = record {
  step = take_back_step_stands heap (spine_need seat);
  fits = λ found small led. fits_after_call heap seat here.fits.own.registers_whole here.fits.own.registers_fit here.fits.own.cursor_within here.fits.own.small_reserve
      here.fits.own.reserve_of_cursor (left_aside_is_absurd (call_point_has_not_left heap number seat (points.Making Withdrawing) here (λ e. cc)));
  near = λ found. record { fewer = omega arith; paid = omega arith };
  adds = λ now. adds_where_none_awaited heap now number seat (withdraw_move number seat) refl (rw here.point_is refl) refl refl;
}

-- the spine gets its place
pub point_stands_at_placing : PointStands (points.Making Placing)
point_stands_at_placing heap number seat here =
    let body = here.hand.0 in
    let words = array_words_within_limits seat.command body.1 body.0.makes.in_range in
    let aside : IsAside heap seat = point_is_aside heap number seat (points.Making Placing) here (λ e. cc) here.way here.answer in
    record {
      step = spot_claim_step_stands heap (spine_need seat);
      fits = λ found small led. fits_with_spine heap seat seat.used (spot_in found) seat.listed (points.Making Listing) here.fits aside (record { half_within = omega arith; offset_within = omega arith })
          (body, omega (arith, here.hand.1.none_listed, words.0)) aside.nowhere aside.silent;
      near = λ found. record { fewer = omega arith; paid = omega arith };
      adds = λ now. adds_where_none_awaited heap now number seat (placing_move seat) refl (rw here.point_is refl) refl refl;
    }

module _ (heap : Heap) (seat : Seat) (body : HasArrayBody seat) (within : seat.listed < spine_need seat) where
  -- the spine word names one of the object's fragments
  named_within : seat.listed + 1 < length seat.body
  named_within = let words = array_words_within_limits seat.command body.1 body.0.makes.in_range in omega (arith, within, words.2, body.0.whole)

  -- a word of the spine was stored
  fits_listed : Fits heap seat → IsAside heap seat → Fits heap (after_listing seat)
  fits_listed fits aside =
      fits_with_spine heap seat seat.used seat.spine (seat.listed + 1) (points.Making (list_point (seat.listed + 1) (spine_need seat))) fits aside fits.hand.spine_within
      (listing_cases (FitsMaking heap (after_listing seat)) (seat.listed + 1) (spine_need seat) (λ more. (body, more))
      (λ all. (body.0, body.2.all_unborn, omega (arith, named_within, body.2.none_stored), spine_is_all_listed seat.command seat.spine (seat.listed + 1) body.1 (omega (arith, all, within)))))
      aside.nowhere aside.silent

  nears_listed : Nears heap (with_entries (after_listing seat) []) 1 (making_steps heap seat Listing) 0
  nears_listed =
      let same = ap length body.2.all_unborn in
      listing_cases (λ m. Nears heap (with_entries (record (after_listing seat) { point = points.Making m }) []) 1 (making_steps heap seat Listing) 0) (seat.listed + 1) (spine_need seat)
      (λ more. record { fewer = omega (arith, within); paid = omega arith }) (λ all. record { fewer = omega (arith, within, same, body.2.none_stored); paid = omega arith })

-- the spine's next word is stored
pub point_stands_at_listing : PointStands (points.Making Listing)
point_stands_at_listing heap number seat here =
    let body = here.hand.0 in
    let within = here.hand.1 in
    record {
      step = spine_store_step_stands heap seat.spine.half (seat.spine.offset + seat.listed) _ here.fits.hand.spine_within.half_within (omega (arith, here.limits.groups_fit))
          (here.fits.hand.body_within (seat.listed + 1) 0 (named_within heap seat body within));
      fits = λ found small led. fits_listed heap seat body within here.fits (point_is_aside heap number seat (points.Making Listing) here (λ e. cc) here.way here.answer);
      near = λ found. nears_listed heap seat body within;
      adds = λ now. adds_where_none_awaited heap now number seat (listing_move seat) refl (rw here.point_is refl) refl refl;
    }

-- the making of an array begins
pub command_stands_for_array : (d cells : ℕ) → CommandStands (Array d cells)
command_stands_for_array d cells heap number seat ready =
    let aside = ready_is_aside heap number seat (Array d cells) ready in
    resting_begin_stands heap number seat (Array d cells) ready (points.Making Granting)
    (ready_is_at_rest heap number seat (Array d cells) ready, record { an_object = tt; in_range = ready.may.in_range; numbered = ready.may.numbered }, tt) aside.nowhere aside.silent (λ words. refl) (omega arith)
