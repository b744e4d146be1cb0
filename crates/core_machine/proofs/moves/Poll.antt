-- A poll, and the answer to a new phase.
use Rattle.std.proofs.Common.{◌≡◌, ℕ, ◌+◌, ◌-◌, ◌^◌, ◌<◌, ◌≤◌, false, [], length, inl, inr, refl, sym, subst, arith, List, ◌∷◌, get_or, suc, ◌≢◌}
use Rattle.std.proofs.lemmas.Bool.Decides.{eqb_tells, leb_tells}
use Rattle.heap_model.specs.declared.command.Command.TheVariants as commands
use Rattle.core_machine.proofs.Terms.{Entry, Answers, Heap, seat_after, Point, PollLoad, found_by, entries_awaited, FitsPoint, FitsWay, FitsAnswer, IsAtRest, AnswersThePhase, Fits}
use Rattle.core_machine.proofs.Terms.{IsNowhere, Seat, with_seen, after_call, with_entries, Nears}
use Rattle.core_machine.specs.declared.point.Point.TheVariants as points
use Rattle.core_machine.specs.declared.point.Polling.{Polling}
use Rattle.core_machine.specs.declared.point.Polling.TheVariants.{Asking, Shading, Answering}
use Rattle.core_machine.specs.seat.HandshakeMoves.{poll_move, root_move, answer_move}
use Rattle.core_machine.proofs.seat_lemmas.PollingOver.{polling_over_cases}
use Rattle.core_machine.specs.seat.Handshake.{polling_over, after_phase_load, after_root_shade, after_answer, roots, answer_next}
use Rattle.core_machine.proofs.call_lemmas.Awaits.{adds_where_none_awaited, after_words}
use Rattle.core_machine.proofs.moves.Standing.{IsAt, PointStands, call_point_has_not_left, CommandStands, ready_is_aside, ready_is_at_rest, resting_begin_stands}
use Rattle.core_machine.proofs.seat_lemmas.Aside.{left_aside_is_absurd, fits_after_call, fits_when_over}
use Rattle.core_machine.proofs.table_lemmas.StepStands.{load_step_stands, shade_step_stands}
use Rattle.core_machine.proofs.table_lemmas.WithinHeap.{roots_within_heap, roots_within_register_count}

-- a call that answers the phase leaves these alone
pub record Polls (heap : Heap) (seat : Seat) : Type 0 where
  fits : Fits heap seat
  rest : IsAtRest seat
  nowhere : IsNowhere seat
  present : seat.left ≡ false
  polls : AnswersThePhase seat.command

-- the seat with other answers, at a point that they fit
abbrev answering : Seat → ℕ → ℕ → ℕ → Point → Seat
answering seat answered asked shaded point = record seat { answered = answered; asked = asked; shaded = shaded; point = point }

fits_answering : (heap : Heap) (seat : Seat) (answered asked shaded : ℕ) (point : Point) → Polls heap seat → asked < 2 ^ 64
    → FitsPoint heap (answering seat answered asked shaded point) point → FitsWay (answering seat answered asked shaded point) point
    → FitsAnswer (answering seat answered asked shaded point) point → Fits heap (answering seat answered asked shaded point)
fits_answering heap seat answered asked shaded point polls small at_point way answer =
    let fits = polls.fits in
    record {
      own = fits.own;
      hand = fits.hand;
      way = fits.way;
      asked_small = small;
      at_point = at_point;
      way_at_point = way;
      answer_at_point = answer;
      gone = left_aside_is_absurd polls.present;
    }

-- another answer is under way
fits_polling : (heap : Heap) (seat : Seat) (asked shaded : ℕ) → Polls heap seat → asked < 2 ^ 64 → asked ≢ seat.answered
    → shaded ≤ length (roots (record seat { asked = asked; shaded = shaded })) → Fits heap (answer_next (record seat { asked = asked; shaded = shaded }))
fits_polling heap seat asked shaded polls small anew few =
    fits_answering heap seat seat.answered asked shaded next.point polls small polls.rest polls.nowhere answer
  where
    next : Seat
    next = answer_next (record seat { asked = asked; shaded = shaded })

    answer : FitsAnswer next next.point
    answer = elim (leb_tells (suc shaded) (length (roots (record seat { asked = asked; shaded = shaded })))) as (λ _. FitsAnswer next next.point) [
      | inl more ↦ rw more.0 (record { polls = polls.polls; anew = anew }, more.1)
      | inr all ↦ rw all.0 (record { polls = polls.polls; anew = anew }, omega (arith, all.1, few))
    ]

-- no call is in flight, with this answer
fits_answered : (heap : Heap) (seat : Seat) (answered : ℕ) → Polls heap seat → Fits heap (polling_over seat.command (record seat { answered = answered }))
fits_answered heap seat answered polls =
    let fits = polls.fits in
    let next = record seat { answered = answered } in
    let over : Fits heap (after_call next) =
    fits_after_call heap next fits.own.registers_whole fits.own.registers_fit fits.own.cursor_within fits.own.small_reserve fits.own.reserve_of_cursor (left_aside_is_absurd polls.present) in
    polling_over_cases (λ s more. Fits heap s) 0 seat.command next 0 (λ collects. fits_when_over heap next over) (λ tells. over)

-- the phase was found
fits_phase : (heap : Heap) (seat : Seat) (found : ℕ) → Polls heap seat → found < 2 ^ 64 → seat.shaded ≡ 0 → Fits heap (after_phase_load seat found)
fits_phase heap seat found polls small no_shade =
    elim (eqb_tells found seat.answered) as (λ _. Fits heap (after_phase_load seat found)) [
      | inl same ↦ rw same.0 (fits_answered heap seat seat.answered polls)
      | inr new ↦ rw new.0 (fits_polling heap seat found seat.shaded polls small new.1 (omega (arith, no_shade)))
    ]

-- a root was shaded
fits_shaded : (heap : Heap) (seat : Seat) → Polls heap seat → seat.asked ≢ seat.answered → seat.shaded < length (roots seat) → Fits heap (after_root_shade seat)
fits_shaded heap seat polls anew more = fits_polling heap seat seat.asked (seat.shaded + 1) polls polls.fits.asked_small anew (omega (arith, more))

-- the answer was stored
fits_stored_answer : (heap : Heap) (seat : Seat) → Polls heap seat → Fits heap (after_answer seat)
fits_stored_answer heap seat polls = fits_answered heap seat seat.asked polls

polls_at : (heap : Heap) (number : ℕ) (seat : Seat) (point : Polling) → IsAt heap number seat (points.Polling point) → AnswersThePhase seat.command → Polls heap seat
polls_at heap number seat point here polls =
    record { fits = here.fits; rest = here.hand; nowhere = here.way; present = call_point_has_not_left heap number seat (points.Polling point) here (λ e. cc); polls = polls }

-- the seat has loaded the phase
seen_at : (heap : Heap) (number : ℕ) (seat : Seat) (found : ℕ) → IsAt heap number seat (points.Polling Asking) → Polls heap (with_seen found seat)
seen_at heap number seat found here =
    let present = call_point_has_not_left heap number seat (points.Polling Asking) here (λ e. cc) in
    record {
      fits = record {
        own = here.fits.own;
        hand = here.fits.hand;
        way = here.fits.way;
        asked_small = here.fits.asked_small;
        at_point = subst (FitsPoint heap (with_seen found seat)) (sym here.point_is) here.hand;
        way_at_point = subst (FitsWay (with_seen found seat)) (sym here.point_is) here.way;
        answer_at_point = subst (FitsAnswer (with_seen found seat)) (sym here.point_is) here.answer;
        gone = left_aside_is_absurd present;
      };
      rest = here.hand;
      nowhere = here.way;
      present = present;
      polls = here.answer.1;
    }

-- an answer is under way
nears_shades_on : (heap : Heap) (seat : Seat) (steps : ℕ) → (length (roots seat) - seat.shaded) + 1 < steps → Nears heap (with_entries (answer_next seat) []) 2 steps 0
nears_shades_on heap seat steps more =
    elim (leb_tells (suc seat.shaded) (length (roots seat))) as (λ _. Nears heap (with_entries (answer_next seat) []) 2 steps 0) [
      | inl some ↦ rw some.0 (record { fewer = omega arith; paid = omega arith })
      | inr all ↦ rw all.0 (record { fewer = omega arith; paid = omega arith })
    ]

nears_phase : (heap : Heap) (number : ℕ) (seat : Seat) (found : ℕ)
    → Nears heap (seat_after (poll_move number seat) found) 2 (length seat.registers + 2) (length ((poll_move number seat).adds found))
nears_phase heap number seat found =
    let few = roots_within_register_count (record seat { asked = found }) in
    elim (eqb_tells found seat.answered) as (λ _. Nears heap (seat_after (poll_move number seat) found) 2 (length seat.registers + 2) (length ((poll_move number seat).adds found))) [
      | inl same ↦ rw same.0 (polling_over_cases (λ s more. Nears heap (with_entries s more) 2 (length seat.registers + 2) (length more)) number seat.command (with_seen found seat) found
          (λ collects. record { fewer = omega arith; paid = omega arith }) (λ tells. record { fewer = omega arith; paid = omega arith }))
      | inr new ↦ rw new.0 (nears_shades_on heap (record (with_seen found seat) { asked = found }) (length seat.registers + 2) (omega arith))
    ]

module _ (heap : Heap) (number : ℕ) (seat : Seat) where
  phase_adds : (words : List ℕ) (found : ℕ) (more : List Entry) → ((after_phase_load seat found).mine ≡ seat.mine) × (entries_awaited heap words number (with_entries (after_phase_load seat found) more) ≡ [])
  phase_adds words found more =
      elim (eqb_tells found seat.answered) as (λ _. ((after_phase_load seat found).mine ≡ seat.mine) × (entries_awaited heap words number (with_entries (after_phase_load seat found) more) ≡ [])) [
        | inl same ↦ rw same.0 (polling_over_cases (λ s told. (s.mine ≡ seat.mine) × (entries_awaited heap words number (with_entries s more) ≡ [])) number seat.command seat found (λ collects. (refl, refl)) (λ tells. (refl, refl)))
        | inr new ↦ rw new.0 (refl, refl)
      ]

-- the phase is loaded
pub point_stands_at_poll_asking : PointStands (points.Polling Asking)
point_stands_at_poll_asking heap number seat here =
    let move = poll_move number seat in
    record {
      step = load_step_stands heap PollLoad refl tt;
      fits = λ found small led. fits_phase heap (with_seen found seat) found (seen_at heap number seat found here) small here.answer.0.none_shaded;
      near = λ found. nears_phase heap number seat found;
      adds = λ now. let found = found_by heap now move.step in
          let by = phase_adds heap number (with_seen found seat) (after_words heap now number seat move) found (move.adds found) in
          adds_where_none_awaited heap now number seat move by.0 (rw here.point_is refl) by.1 refl;
    }

-- a root is shaded
pub point_stands_at_shading : PointStands (points.Polling Shading)
point_stands_at_shading heap number seat here = record {
  step = shade_step_stands heap (get_or (roots seat) seat.shaded 0) (roots_within_heap heap seat seat.shaded here.fits here.answer.1);
  fits = λ found small led. fits_shaded heap seat (polls_at heap number seat Shading here here.answer.0.polls) here.answer.0.anew here.answer.1;
  near = λ found. nears_shades_on heap (record seat { shaded = seat.shaded + 1 }) ((length (roots seat) - seat.shaded) + 1) (omega (arith, here.answer.1));
  adds = λ now. adds_where_none_awaited heap now number seat (root_move seat) refl (rw here.point_is refl) refl refl;
}

-- the answer is stored
pub point_stands_at_answering : PointStands (points.Polling Answering)
point_stands_at_answering heap number seat here = record {
  step = record { in_table = here.few; wide = λ found small. here.fits.asked_small; leads = λ found led. tt };
  fits = λ found small led. fits_stored_answer heap seat (polls_at heap number seat Answering here here.answer.0.polls);
  near = λ found. polling_over_cases (λ s more. Nears heap (with_entries s (Answers number seat.asked ∷ more)) 2 1 (suc (length more))) number seat.command stored seat.asked
      (λ collects. record { fewer = omega arith; paid = omega arith }) (λ tells. record { fewer = omega arith; paid = omega arith });
  adds = λ now.
      let words = after_words heap now number seat (answer_move number seat) in
      let by = polling_over_cases (λ s more. (s.mine ≡ seat.mine) × (entries_awaited heap words number (with_entries s (Answers number seat.asked ∷ more)) ≡ [])) number seat.command stored seat.asked (λ collects. (refl, refl)) (λ tells. (refl, refl)) in
      adds_where_none_awaited heap now number seat (answer_move number seat) by.0 (rw here.point_is refl) by.1 refl;
}
  where
    stored : Seat
    stored = record seat { answered = seat.asked }

-- a poll begins
pub command_stands_for_poll : CommandStands commands.Poll
command_stands_for_poll heap number seat ready =
    let aside = ready_is_aside heap number seat commands.Poll ready in
    resting_begin_stands heap number seat commands.Poll ready (points.Polling Asking) (ready_is_at_rest heap number seat commands.Poll ready) aside.nowhere (aside.silent, tt) (λ words. refl) (omega arith)
