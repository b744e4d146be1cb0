-- How a new object gets its words, and is born.
use Rattle.std.proofs.Common.{◌≡◌, ℕ, ◌+◌, ◌-◌, ◌*◌, ◌/◌, ◌^◌, ◌<◌, ◌≤◌, false, [], length, inl, inr, refl, arith, get_or, ap, ◌∙◌, ◌%◌, bit_or, length-take}
use Rattle.std.proofs.lemmas.Bool.Decides.{eqb_tells}
use Rattle.std.proofs.lemmas.List.{length-set}
use Rattle.std.proofs.lemmas.List.Elements.{All-take, All-set}
use Rattle.core_machine.proofs.Terms.{Heap, bearing_move, is_last_birth, birth_move, last_birth_move, bears_black_of, Storing, Bearing, Object, target_of, HasBody, SpineIsListed}
use Rattle.core_machine.proofs.Terms.{FitsMaking, Fits, FitsRegister, after_store, after_birth, after_last_birth, last_group_of, last_run, before_run, store_point, next_object_id}
use Rattle.core_machine.proofs.Terms.{next_name, Seat, with_held, with_entries, mask_of, birth_bits_of, Nears}
use Rattle.core_machine.specs.declared.point.Point.TheVariants as points
use Rattle.core_machine.specs.seat.MakingMoves.{store_move, hand_run}
use Rattle.core_machine.proofs.call_lemmas.Awaits.{adds_where_none_awaited}
use Rattle.core_machine.proofs.moves.Standing.{IsAt, MoveStands, PointStands, point_is_aside}
use Rattle.core_machine.proofs.seat_lemmas.Aside.{IsAside, left_aside_is_absurd, fits_after_call, fits_with_hand}
use Rattle.core_machine.proofs.seat_lemmas.Fitting.{object_need_within_limits}
use Rattle.core_machine.proofs.seat_lemmas.LastRun.{before_run_is_shorter, before_run_is_some}
use Rattle.core_machine.proofs.table_lemmas.Bits.{true_or_false}
use Rattle.core_machine.proofs.table_lemmas.Leading.{newborn_leads_within_heap}
use Rattle.core_machine.proofs.table_lemmas.Masks.{mask_is_small}
use Rattle.core_machine.proofs.table_lemmas.Owned.{fragments_group_within_heap}
use Rattle.core_machine.proofs.table_lemmas.Wide.{newborn_word_fits_bits, listed_fragment_is_small, birth_word_fits_bits}

fits_storing : (heap : Heap) (seat : Seat) → HasBody seat → seat.hand ≡ seat.body → seat.stored ≤ 4 * length seat.body → SpineIsListed seat.command seat.spine seat.listed
    → FitsMaking heap seat (store_point seat.stored seat.body)
fits_storing heap seat is whole within listed =
    let some = object_need_within_limits seat.command is.makes.an_object is.makes.in_range in
    let same = ap length whole in
    elim (eqb_tells seat.stored (4 * length seat.body)) as (λ _. FitsMaking heap seat (store_point seat.stored seat.body)) [
      | inl all ↦ rw all.0 (is, omega (arith, is.whole), omega arith, all.1, listed)
      | inr left ↦ rw left.0 (is, whole, omega arith, listed)
    ]

-- a word was stored
fits_stored : (heap : Heap) (seat : Seat) → Fits heap seat → IsAside heap seat → HasBody seat → seat.hand ≡ seat.body → seat.stored < 4 * length seat.body
    → SpineIsListed seat.command seat.spine seat.listed → Fits heap (after_store seat)
fits_stored heap seat fits aside is whole within listed =
    fits_with_hand heap seat seat.hand (seat.stored + 1) seat.tried seat.given (points.Making (store_point (seat.stored + 1) seat.body)) fits aside fits.hand.hand_within
    (fits_storing heap (after_store seat) (record { makes = is.makes; whole = is.whole; none_tried = is.none_tried; none_given = is.none_given; none_used = is.none_used }) whole (omega arith) listed)
    aside.nowhere aside.silent

nears_stored : (heap : Heap) (seat : Seat) → seat.stored < 4 * length seat.body → 0 < length seat.hand
    → Nears heap (with_entries (after_store seat) []) 1 ((4 * length seat.body - seat.stored) + length seat.hand) 0
nears_stored heap seat within some =
    elim (eqb_tells (seat.stored + 1) (4 * length seat.body)) as (λ _. Nears heap (with_entries (after_store seat) []) 1 ((4 * length seat.body - seat.stored) + length seat.hand) 0) [
      | inl all ↦ rw all.0 (record { fewer = omega arith; paid = omega arith })
      | inr left ↦ rw left.0 (record { fewer = omega arith; paid = omega arith })
    ]

-- a word of the new object is stored
pub point_stands_at_storing : PointStands (points.Making Storing)
point_stands_at_storing heap number seat here =
    let makes = here.hand.0.makes in
    record {
      step = record {
        in_table = (here.fits.hand.body_within (seat.stored / 4) 0 (omega (arith, here.hand.2)), omega arith);
        wide = λ found small. newborn_word_fits_bits seat.command (next_name number seat) seat.spine seat.body (seat.stored / 4) (seat.stored % 4) makes.an_object makes.in_range (omega (arith, here.few)) (omega (arith, makes.numbered))
            here.fits.hand.spine_within (λ i. listed_fragment_is_small heap seat.body i here.limits here.fits.hand.body_within);
        leads = λ found led. newborn_leads_within_heap heap seat.command (next_name number seat) seat.spine seat.body (seat.stored / 4) (seat.stored % 4) makes.an_object makes.in_range (omega (arith, here.few)) (omega (arith, makes.numbered))
            (omega (arith, here.fits.own.cursor_within)) (omega (arith, here.limits.groups_fit)) here.fits.hand.spine_within here.fits.hand.body_within;
      };
      fits = λ found small led. fits_stored heap seat here.fits (point_is_aside heap number seat (points.Making Storing) here (λ e. cc) here.way here.answer) here.hand.0 here.hand.1 here.hand.2 here.hand.3;
      near = λ found. nears_stored heap seat here.hand.2 (omega (arith, ap length here.hand.1, here.hand.2));
      adds = λ now. adds_where_none_awaited heap now number seat (store_move number seat) refl (rw here.point_is refl) refl refl;
    }

-- the hand's last fragments were born, and others are left
fits_born : (heap : Heap) (seat : Seat) → Fits heap seat → IsAside heap seat → HasBody seat → length seat.hand ≤ length seat.body → seat.stored ≡ 4 * length seat.body
    → SpineIsListed seat.command seat.spine seat.listed → seat.point ≡ points.Making Bearing → is_last_birth seat ≡ false → Fits heap (after_birth seat)
fits_born heap seat fits aside is within stored listed point more =
    let fewer = length-take (length seat.hand - last_run seat.hand) seat.hand in
    fits_with_hand heap seat (before_run seat.hand) seat.stored seat.tried seat.given seat.point fits aside
    (All-take (λ fragment. fragment < 16 * heap.groups) (length seat.hand - last_run seat.hand) seat.hand fits.hand.hand_within)
    (rw point (record { makes = is.makes; whole = is.whole; none_tried = is.none_tried; none_given = is.none_given; none_used = is.none_used }, before_run_is_some seat.hand more, omega (arith, fewer, within), stored, listed))
    (rw point aside.nowhere) (rw point aside.silent)

-- the object was made
fits_made : (heap : Heap) (number : ℕ) (seat : Seat) → Fits heap seat → IsAside heap seat → HasBody seat → Fits heap (after_last_birth number seat)
fits_made heap number seat fits aside is =
    let some = object_need_within_limits seat.command is.makes.an_object is.makes.in_range in
    let head = fits.hand.body_within 0 0 (omega (arith, is.whole)) in
    fits_after_call heap (record (with_held seat (target_of seat.command) (Object (get_or seat.body 0 0) (next_object_id number seat)) 0) { made = seat.made + 1 })
    (length-set seat.registers _ _ ∙ fits.own.registers_whole)
    (All-set (FitsRegister heap) seat.registers (target_of seat.command) (Object (get_or seat.body 0 0) (next_object_id number seat)) head fits.own.registers_fit)
    fits.own.cursor_within fits.own.small_reserve fits.own.reserve_of_cursor (left_aside_is_absurd aside.present)

module _ (heap : Heap) (number : ℕ) (seat : Seat) (here : IsAt heap number seat (points.Making Bearing)) where
  aside : IsAside heap seat
  aside = point_is_aside heap number seat (points.Making Bearing) here (λ e. cc) here.way here.answer

  -- the group is one of the heap's, the word that a birth leaves has 64 bits, and the hand gets shorter
  last_within : last_group_of seat.hand < heap.groups
  last_within = fragments_group_within_heap heap seat.hand (length seat.hand - 1) (omega (arith, here.hand.1)) here.fits.hand.hand_within

  born_wide : (found : ℕ) → found < 2 ^ 64 → bit_or found (birth_bits_of (bears_black_of seat) (mask_of (hand_run seat))) < 2 ^ 64
  born_wide found small = birth_word_fits_bits (bears_black_of seat) (mask_of (hand_run seat)) found (mask_is_small (hand_run seat)) small

  shorter : length (before_run seat.hand) < length seat.hand
  shorter = before_run_is_shorter seat.hand here.hand.1

  birth_stands : is_last_birth seat ≡ false → MoveStands heap number seat (points.Making Bearing) (birth_move seat)
  birth_stands more = record {
    step = record { in_table = last_within; wide = born_wide; leads = λ found led. tt };
    fits = λ found small led. fits_born heap seat here.fits aside here.hand.0 here.hand.2 here.hand.3 here.hand.4 here.point_is more;
    near = λ found. record { fewer = rw here.point_is (omega (arith, shorter)); paid = rw here.point_is (omega arith) };
    adds = λ now. adds_where_none_awaited heap now number seat (birth_move seat) refl (rw here.point_is refl) (rw here.point_is refl) refl;
  }

  last_birth_stands : MoveStands heap number seat (points.Making Bearing) (last_birth_move number seat)
  last_birth_stands = record {
    step = record { in_table = last_within; wide = born_wide; leads = λ found led. tt };
    fits = λ found small led. fits_made heap number seat here.fits aside here.hand.0;
    near = λ found. record { fewer = omega (arith, here.hand.1); paid = omega arith };
    adds = λ now. adds_where_none_awaited heap now number seat (last_birth_move number seat) refl (rw here.point_is refl) refl refl;
  }

-- the fragments of a group are born
pub point_stands_at_bearing : PointStands (points.Making Bearing)
point_stands_at_bearing heap number seat here =
    elim (true_or_false (is_last_birth seat)) as (λ _. MoveStands heap number seat (points.Making Bearing) (bearing_move number seat)) [
      | inl last ↦ rw last (last_birth_stands heap number seat here)
      | inr more ↦ rw more (birth_stands heap number seat here more)
    ]
