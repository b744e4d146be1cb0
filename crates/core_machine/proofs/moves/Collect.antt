-- The inner calls of a collect, but for the answer to a phase, which goes as in a poll.
use Rattle.std.proofs.Common.{◌≡◌, ℕ, ◌≤◌, true, [], refl, subst, arith, List}
use Rattle.heap_model.specs.declared.calls.collect.CollectReply.{CollectReply}
use Rattle.heap_model.specs.declared.calls.collect.Inner.{Inner}
use Rattle.heap_model.specs.declared.calls.collect.Inner.TheVariants as inners
use Rattle.heap_model.specs.declared.command.Command.TheVariants as commands
use Rattle.core_machine.proofs.Terms.{Heap, Point, PollLoad, Turning, MayBeginInner, after_inner_begin, entries_awaited, entries_awaited_at, Fits, FitsPoint, FitsWay, FitsAnswer}
use Rattle.core_machine.proofs.Terms.{IsAtRest, Seat, call_over, after_call, owes, owes_at}
use Rattle.core_machine.specs.declared.point.Collecting.{Collecting}
use Rattle.core_machine.specs.declared.point.Collecting.TheVariants.{Looking, Asking, Comparing, Noting}
use Rattle.core_machine.specs.declared.point.Point.TheVariants as points
use Rattle.core_machine.specs.declared.point.Polling.TheVariants as polling
use Rattle.core_machine.specs.declared.step.TurningStep.TheVariants.{LookLoad}
use Rattle.core_machine.specs.seat.Collecting.{after_asking, look_move, asking_move, comparing_move, note_move}
use Rattle.core_machine.specs.seat.Looks.{Looks, MayMake, looked, seen_phase, compared}
use Rattle.core_machine.proofs.call_lemmas.Awaits.{adds_where_none_awaited}
use Rattle.core_machine.proofs.moves.Standing.{IsAt, PointStands, call_point_has_not_left}
use Rattle.core_machine.proofs.seat_lemmas.Aside.{IsAside, left_aside_is_absurd, idle_is_aside, fits_after_call, fits_when_over}
use Rattle.core_machine.proofs.table_lemmas.StepStands.{load_step_stands}

-- a seat in an inner call hasn't left
present_in : (heap : Heap) (number : ℕ) (seat : Seat) (point : Collecting) → IsAt heap number seat (points.Collecting point) → {G : Type 0} → seat.left ≡ true → G
present_in heap number seat point here left = left_aside_is_absurd (call_point_has_not_left heap number seat (points.Collecting point) here (λ e. cc)) left

-- the call is over, with other looks
fits_told : (heap : Heap) (number : ℕ) (seat : Seat) (point : Collecting) (looks : Looks) → IsAt heap number seat (points.Collecting point) → Fits heap (after_call (record seat { looks = looks }))
fits_told heap number seat point looks here =
    let own = here.fits.own in
    fits_after_call heap (record seat { looks = looks }) own.registers_whole own.registers_fit own.cursor_within own.small_reserve own.reserve_of_cursor (λ left. present_in heap number seat point here left)

fits_looked : (heap : Heap) (number : ℕ) (seat : Seat) (point : Collecting) (looks : Looks) → IsAt heap number seat (points.Collecting point) → Fits heap (call_over (record seat { looks = looks }))
fits_looked heap number seat point looks here = fits_when_over heap (record seat { looks = looks }) (fits_told heap number seat point looks here)

-- the phase was found, with which the answer of another seat is to be compared
fits_asked : (heap : Heap) (number : ℕ) (seat : Seat) (other found : ℕ) → IsAt heap number seat (points.Collecting (Asking other)) → Fits heap (after_asking seat other found)
fits_asked heap number seat other found here = record {
  own = here.fits.own;
  hand = here.fits.hand;
  way = here.fits.way;
  asked_small = here.fits.asked_small;
  at_point = here.hand;
  way_at_point = here.way;
  answer_at_point = here.answer;
  gone = λ left. present_in heap number seat (Asking other) here left;
}

-- the phase is looked at
pub point_stands_at_looking : PointStands (points.Collecting Looking)
point_stands_at_looking heap number seat here = record {
  step = load_step_stands heap PollLoad refl tt;
  fits = λ found small led. fits_looked heap number seat Looking (looked found seat.looks) here;
  near = λ found. record { fewer = omega arith; paid = omega arith };
  adds = λ now. adds_where_none_awaited heap now number seat (look_move seat) refl (rw here.point_is refl) refl refl;
}

-- the phase is loaded, with which the answer of another seat is to be compared
pub point_stands_at_look_asking : (other : ℕ) → PointStands (points.Collecting (Asking other))
point_stands_at_look_asking other heap number seat here = record {
  step = load_step_stands heap PollLoad refl tt;
  fits = λ found small led. fits_asked heap number seat other found here;
  near = λ found. record { fewer = omega arith; paid = omega arith };
  adds = λ now. adds_where_none_awaited heap now number seat (asking_move seat other) refl (rw here.point_is refl) refl refl;
}

-- the other seat's word is loaded
pub point_stands_at_comparing : (other phase : ℕ) → PointStands (points.Collecting (Comparing other phase))
point_stands_at_comparing other phase heap number seat here = record {
  step = load_step_stands heap (Turning (LookLoad other)) refl (omega (arith, here.hand.2, here.limits.seats_fit));
  fits = λ found small led. fits_looked heap number seat (Comparing other phase) (compared other phase found seat.looks) here;
  near = λ found. record { fewer = omega arith; paid = omega arith };
  adds = λ now. adds_where_none_awaited heap now number seat (comparing_move seat other phase) refl (rw here.point_is refl) refl refl;
}

-- the reply is told
pub point_stands_at_noting : (reply : CollectReply) → PointStands (points.Collecting (Noting reply))
point_stands_at_noting reply heap number seat here = record {
  step = load_step_stands heap PollLoad refl tt;
  fits = λ found small led. fits_told heap number seat (Noting reply) (seen_phase found seat.looks) here;
  near = λ found. record { fewer = omega arith; paid = omega arith };
  adds = λ now. adds_where_none_awaited heap now number seat (note_move number seat reply) refl (rw here.point_is refl) refl refl;
}

-- what is asked of the begin of an inner call
pub record InnerStands (heap : Heap) (number : ℕ) (seat begun_ : Seat) : Type 0 where
  -- the seat's data fit together after it
  pub fits : Fits heap begun_
  -- it adds no entry, and awaits none
  pub kept : begun_.mine ≡ seat.mine
  pub awaits : (words : List ℕ) → entries_awaited heap words number begun_ ≡ []
  -- it owes two entries at most
  pub owed : owes begun_ ≤ 2

-- the begin of an inner call that may be begun
pub inner_stands : (heap : Heap) (number : ℕ) (seat : Seat) (inner : Inner) → Fits heap seat → MayBeginInner heap number seat inner → InnerStands heap number seat (after_inner_begin seat inner)
inner_stands heap number seat inner fits may = by inner may.makes where
  aside : IsAside heap seat
  aside = idle_is_aside heap seat fits may.idle may.present

  rest : IsAtRest seat
  rest = subst (FitsPoint heap seat) may.idle fits.at_point

  -- the seat at the first point of the call
  seat_at_point : Point → Seat
  seat_at_point point = record seat { command = commands.Collect; point = point }

  at_first : (point : Point) → FitsPoint heap (seat_at_point point) point → FitsWay (seat_at_point point) point → FitsAnswer (seat_at_point point) point
      → ((words : List ℕ) → entries_awaited_at heap words number (seat_at_point point) point ≡ []) → owes_at (seat_at_point point) point ≤ 2 → InnerStands heap number seat (seat_at_point point)
  at_first point hand way answer awaits owed = record {
    fits = record { own = fits.own; hand = fits.hand; way = fits.way; asked_small = fits.asked_small; at_point = hand; way_at_point = way; answer_at_point = answer; gone = left_aside_is_absurd may.present };
    kept = refl;
    awaits = awaits;
    owed = owed;
  }

  by : (inner : Inner) → MayMake heap number seat.looks inner → InnerStands heap number seat (after_inner_begin seat inner)
  by inners.Look makes = at_first (points.Collecting Looking) (rest, refl, tt) aside.nowhere aside.silent (λ words. refl) (omega arith)
  by inners.Answer makes = at_first (points.Polling polling.Asking) rest aside.nowhere (aside.silent, tt) (λ words. refl) (omega arith)
  by (inners.Behind other) makes = at_first (points.Collecting (Asking other)) (rest, refl, makes.0) aside.nowhere aside.silent (λ words. refl) (omega arith)
  by (inners.Note reply) makes = at_first (points.Collecting (Noting reply)) (rest, refl, makes) aside.nowhere aside.silent (λ words. refl) (omega arith)
