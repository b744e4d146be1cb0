-- A compare and swap, with the barrier on or off.
use Rattle.std.specs.Prelude.{IsSome, unwrap_or}
use Rattle.std.proofs.Common.{◌≡◌, ℕ, ◌+◌, ◌*◌, ◌^◌, ◌<◌, ◌≤◌, ◌==◌, Bool, true, false, [], length, refl, arith, List, subst, sym, Option, Some, None}
use Rattle.core_machine.proofs.Terms.{Entry, Heap, ShadingSide, Replacing, Side, source_of, Fits, FitsRegister, SeatIsAtCas, after_side, after_replace, offer_point_of, at_access, has_barrier_of}
use Rattle.core_machine.proofs.Terms.{found_by, side_of, side_register_of, register_head, Seat, with_entries, Nears, access_steps, entries_awaited}
use Rattle.heap_model.specs.graph.Growth.{set_stamp}
use Rattle.core_machine.specs.declared.point.Point.TheVariants as points
use Rattle.core_machine.specs.declared.point.Side.TheVariants as sides
use Rattle.core_machine.specs.seat.AccessMoves.{new_register_of, new_word_of, old_word_of, replaced_reply, shade_side_move, replace_move, reply_entries}
use Rattle.core_machine.proofs.call_lemmas.Awaits.{adds_where_none_awaited, after_words}
use Rattle.core_machine.proofs.moves.Standing.{PointStands, access_point_rests}
use Rattle.core_machine.proofs.seat_lemmas.FittingAccess.{Rests, fits_at_access, fits_after_sets}
use Rattle.core_machine.proofs.table_lemmas.Leading.{register_leads_within_heap}
use Rattle.core_machine.proofs.table_lemmas.StepStands.{shade_step_stands, compared_step_stands}
use Rattle.core_machine.proofs.table_lemmas.Wide.{cas_has_stamp_left, register_word_fits_bits}
use Rattle.core_machine.proofs.table_lemmas.WithinHeap.{register_head_within_heap, each_register_fits}

-- where the value that it puts there goes next
pub offer_cases : (P : Seat → Type 0) (seat : Seat) → (IsSome (register_head (side_register_of seat sides.New)) → P (at_access seat (ShadingSide sides.New)))
    → (register_head (side_register_of seat sides.New) ≡ None → P (at_access seat Replacing)) → P (after_side seat sides.Expected)
offer_cases P seat shades compares = by (register_head (side_register_of seat sides.New)) refl where
  by : (new : Option ℕ) → register_head (side_register_of seat sides.New) ≡ new → P (at_access seat (offer_point_of new))
  by None is = compares is
  by (Some head) is = shades (subst IsSome (sym is) refl)

module _ (heap : Heap) (seat : Seat) where
  -- a value was shaded
  fits_side_done : (side : Side) → Rests heap seat → SeatIsAtCas seat → has_barrier_of seat ≡ true → Fits heap (after_side seat side)
  fits_side_done sides.Expected rests is on =
      offer_cases (Fits heap) seat
      (λ some. fits_at_access heap seat seat.reached seat.links seat.part seat.loaded (ShadingSide sides.New) rests rests.fits.way.reached_within rests.fits.way.loaded_within (is, on, some))
      (λ none. fits_at_access heap seat seat.reached seat.links seat.part seat.loaded Replacing rests rests.fits.way.reached_within rests.fits.way.loaded_within is)
  fits_side_done sides.New rests is on = fits_at_access heap seat seat.reached seat.links seat.part seat.loaded Replacing rests rests.fits.way.reached_within rests.fits.way.loaded_within is

  nears_side_done : (side : Side) → Nears heap (with_entries (after_side seat side) []) 1 (access_steps 0 seat.links (ShadingSide side)) 0
  nears_side_done sides.Expected =
      offer_cases (λ s. Nears heap (with_entries s []) 1 3 0) seat (λ some. record { fewer = omega arith; paid = omega arith }) (λ none. record { fewer = omega arith; paid = omega arith })
  nears_side_done sides.New = record { fewer = omega arith; paid = omega arith }

  -- the call ended, whether the words were the same or not
  fits_replaced : (same : Bool) → Rests heap seat → Fits heap (after_replace seat same)
  fits_replaced true rests = fits_after_sets heap seat seat.registers seat.seen (seat.sets + 1) rests rests.fits.own.registers_whole rests.fits.own.registers_fit
  fits_replaced false rests = fits_after_sets heap seat seat.registers seat.seen seat.sets rests rests.fits.own.registers_whole rests.fits.own.registers_fit

  nears_replaced : (number found : ℕ) (same : Bool)
      → Nears heap (with_entries (after_replace seat same) (reply_entries number seat (replaced_reply found same))) 1 1 (length (reply_entries number seat (replaced_reply found same)))
  nears_replaced number found true = record { fewer = omega arith; paid = omega arith }
  nears_replaced number found false = record { fewer = omega arith; paid = omega arith }

  side_awaits : (words : List ℕ) (number : ℕ) (side : Side) (more : List Entry) → entries_awaited heap words number (with_entries (after_side seat side) more) ≡ []
  side_awaits words number sides.Expected more = offer_cases (λ s. entries_awaited heap words number (with_entries s more) ≡ []) seat (λ some. refl) (λ none. refl)
  side_awaits words number sides.New more = refl

  replaced_awaits : (words : List ℕ) (number : ℕ) (same : Bool) (more : List Entry) → entries_awaited heap words number (with_entries (after_replace seat same) more) ≡ []
  replaced_awaits words number true more = refl
  replaced_awaits words number false more = refl

-- a seat's own list stays
pub side_keeps_list : (seat : Seat) (side : Side) → (after_side seat side).mine ≡ seat.mine
side_keeps_list seat sides.Expected = offer_cases (λ s. s.mine ≡ seat.mine) seat (λ some. refl) (λ none. refl)
side_keeps_list seat sides.New = refl

pub replaced_keeps_list : (seat : Seat) (same : Bool) → (after_replace seat same).mine ≡ seat.mine
replaced_keeps_list seat true = refl
replaced_keeps_list seat false = refl

-- one of its values is shaded
pub point_stands_at_shading_side : (side : Side) → PointStands (points.Access (ShadingSide side))
point_stands_at_shading_side side heap number seat here =
    let move = shade_side_move seat side in
    record {
      step = shade_step_stands heap (unwrap_or (register_head (side_register_of seat side)) 0)
          (register_head_within_heap heap (side_register_of seat side) here.way.2 (each_register_fits heap seat.registers (side_of side seat.command) here.fits.own.registers_fit));
      fits = λ found small led. fits_side_done heap seat side (access_point_rests heap number seat (ShadingSide side) here) here.way.0 here.way.1;
      near = λ found. nears_side_done heap seat side;
      adds = λ now. adds_where_none_awaited heap now number seat move (side_keeps_list seat side) (rw here.point_is refl) (side_awaits heap seat (after_words heap now number seat move) number side []) refl;
    }

-- the field is compared, and gets its new word where it has the expected one
pub point_stands_at_replacing : PointStands (points.Access Replacing)
point_stands_at_replacing heap number seat here =
    let move = replace_move number seat in
    let fit : FitsRegister heap (new_register_of seat) = each_register_fits heap seat.registers (source_of seat.command) here.fits.own.registers_fit in
    let small_stamp : set_stamp number (seat.sets + 1) < 2 ^ 32 = omega (arith, here.few, cas_has_stamp_left seat.command seat.made seat.sets here.way.1 here.way.0.numbered) in
    let groups : 16 * heap.groups ≤ 2 ^ 16 = omega (arith, here.limits.groups_fit) in
    record {
      step = compared_step_stands heap seat.reached seat.part (old_word_of seat) (new_word_of number seat) (here.fits.way.reached_within, here.way.2.part_within)
          (register_word_fits_bits heap (new_register_of seat) (set_stamp number (seat.sets + 1)) groups fit small_stamp)
          (register_leads_within_heap heap (new_register_of seat) (set_stamp number (seat.sets + 1)) seat.part groups fit small_stamp);
      fits = λ found small led. fits_replaced heap seat (found == old_word_of seat) (access_point_rests heap number seat Replacing here);
      near = λ found. nears_replaced heap seat number found (found == old_word_of seat);
      adds = λ now. let same = found_by heap now move.step == old_word_of seat in
          adds_where_none_awaited heap now number seat move (replaced_keeps_list seat same) (rw here.point_is refl)
          (replaced_awaits heap seat (after_words heap now number seat move) number same (reply_entries number seat (replaced_reply (found_by heap now move.step) same))) refl;
    }
