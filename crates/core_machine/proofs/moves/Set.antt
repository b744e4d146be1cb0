-- A set, with the barrier on or off.
use Rattle.std.proofs.Common.{◌≡◌, ℕ, ◌+◌, ◌*◌, ◌^◌, ◌<◌, ◌≤◌, [], refl, arith, List, subst, sym, true, Option, Some, None}
use Rattle.std.specs.Prelude.{IsSome, unwrap_or}
use Rattle.core_machine.proofs.Terms.{Entry, Heap, LoadingOld, ShadingOld, ShadingNew, Swapping, found_by, entries_awaited, source_of, Fits, FitsRegister, SeatIsAtSet, after_old}
use Rattle.core_machine.proofs.Terms.{after_old_load, at_access, has_barrier_of, new_point_of, register_in, register_head, Seat, with_entries, head_of, IsWithinHeap, Nears}
use Rattle.heap_model.specs.graph.Growth.{set_stamp}
use Rattle.core_machine.specs.declared.point.Point.TheVariants as points
use Rattle.core_machine.specs.seat.AccessMoves.{loaded_head_of, new_register_of, old_move, shade_old_move, shade_new_move, swap_move}
use Rattle.core_machine.proofs.call_lemmas.Awaits.{adds_where_none_awaited, after_words}
use Rattle.core_machine.proofs.moves.Standing.{PointStands, access_point_rests}
use Rattle.core_machine.proofs.seat_lemmas.Aside.{left_aside_is_absurd}
use Rattle.core_machine.proofs.seat_lemmas.FittingAccess.{Rests, fits_at_access, fits_after_sets}
use Rattle.core_machine.proofs.table_lemmas.Leading.{register_leads_within_heap}
use Rattle.core_machine.proofs.table_lemmas.StepStands.{load_step_stands, shade_step_stands}
use Rattle.core_machine.proofs.table_lemmas.Wide.{set_has_stamp_left, register_word_fits_bits}
use Rattle.core_machine.proofs.table_lemmas.WithinHeap.{head_leads_within_heap, some_fragment_within_heap, register_head_within_heap, each_register_fits}

-- a set goes on to its new value
fits_old_done : (heap : Heap) (seat : Seat) (loaded : ℕ) → Rests heap seat → SeatIsAtSet seat → has_barrier_of seat ≡ true → IsWithinHeap heap (head_of loaded)
    → Fits heap (after_old (record seat { loaded = loaded }))
fits_old_done heap seat loaded rests is on led = by (register_head (register_in seat.registers (source_of seat.command))) refl where
  by : (new : Option ℕ) → register_head (register_in seat.registers (source_of seat.command)) ≡ new → Fits heap (at_access (record seat { loaded = loaded }) (new_point_of new))
  by None e = fits_at_access heap seat seat.reached seat.links seat.part loaded Swapping rests rests.fits.way.reached_within led (is, λ off. left_aside_is_absurd off on)
  by (Some head) e = fits_at_access heap seat seat.reached seat.links seat.part loaded ShadingNew rests rests.fits.way.reached_within led (is, on, subst IsSome (sym e) refl)

-- a set's old value was found
fits_old_found : (heap : Heap) (seat : Seat) (found : ℕ) (head : Option ℕ) → Rests heap seat → SeatIsAtSet seat → has_barrier_of seat ≡ true → head_of found ≡ head
    → IsWithinHeap heap head → Fits heap (after_old_load (record seat { loaded = found }) head)
fits_old_found heap seat found None rests is on none led = fits_old_done heap seat found rests is on (subst (IsWithinHeap heap) (sym none) led)
fits_old_found heap seat found (Some head) rests is on some led =
    fits_at_access heap seat seat.reached seat.links seat.part found ShadingOld rests rests.fits.way.reached_within (subst (IsWithinHeap heap) (sym some) led)
    (is, on, subst IsSome (sym some) refl)

nears_old_done : (heap : Heap) (seat : Seat) (loaded steps : ℕ) → 2 < steps → Nears heap (with_entries (after_old (record seat { loaded = loaded })) []) 1 steps 0
nears_old_done heap seat loaded steps more = by (register_head (register_in seat.registers (source_of seat.command))) where
  by : (new : Option ℕ) → Nears heap (with_entries (at_access (record seat { loaded = loaded }) (new_point_of new)) []) 1 steps 0
  by None = record { fewer = omega arith; paid = omega arith }
  by (Some head) = record { fewer = omega arith; paid = omega arith }

nears_old_found : (heap : Heap) (seat : Seat) (found : ℕ) (head : Option ℕ) → Nears heap (with_entries (after_old_load (record seat { loaded = found }) head) []) 1 4 0
nears_old_found heap seat found None = nears_old_done heap seat found 4 (omega arith)
nears_old_found heap seat found (Some head) = record { fewer = omega arith; paid = omega arith }

module _ (heap : Heap) (number : ℕ) (seat : Seat) where
  old_awaits : (words : List ℕ) (loaded : ℕ) (more : List Entry) → entries_awaited heap words number (with_entries (after_old (record seat { loaded = loaded })) more) ≡ []
  old_awaits words loaded more = by (register_head (register_in seat.registers (source_of seat.command))) where
    by : (new : Option ℕ) → entries_awaited heap words number (with_entries (at_access (record seat { loaded = loaded }) (new_point_of new)) more) ≡ []
    by None = refl
    by (Some head) = refl

  old_found_adds : (words : List ℕ) (found : ℕ) (head : Option ℕ)
      → ((after_old_load (record seat { loaded = found }) head).mine ≡ seat.mine) × (entries_awaited heap words number (with_entries (after_old_load (record seat { loaded = found }) head) []) ≡ [])
  old_found_adds words found None = (refl, old_awaits words found [])
  old_found_adds words found (Some head) = (refl, refl)

-- the old value is loaded
pub point_stands_at_loading_old : PointStands (points.Access LoadingOld)
point_stands_at_loading_old heap number seat here =
    let move = old_move seat in
    record {
      step = load_step_stands heap move.step refl (here.fits.way.reached_within, here.way.0.2.part_within);
      fits = λ found small led. fits_old_found heap seat found (head_of found) (access_point_rests heap number seat LoadingOld here) here.way.0 here.way.1 refl (head_leads_within_heap heap seat.part found led);
      near = λ found. nears_old_found heap seat found (head_of found);
      adds = λ now. let found = found_by heap now move.step in
          let by = old_found_adds heap number seat (after_words heap now number seat move) found (head_of found) in
          adds_where_none_awaited heap now number seat move by.0 (rw here.point_is refl) by.1 refl;
    }

-- the old value is shaded
pub point_stands_at_shading_old : PointStands (points.Access ShadingOld)
point_stands_at_shading_old heap number seat here =
    let move = shade_old_move seat in
    record {
      step = shade_step_stands heap (loaded_head_of seat) (some_fragment_within_heap heap (head_of seat.loaded) here.way.2 here.fits.way.loaded_within);
      fits = λ found small led. fits_old_done heap seat seat.loaded (access_point_rests heap number seat ShadingOld here) here.way.0 here.way.1 here.fits.way.loaded_within;
      near = λ found. nears_old_done heap seat seat.loaded 3 (omega arith);
      adds = λ now. adds_where_none_awaited heap now number seat move refl (rw here.point_is refl) (old_awaits heap number seat (after_words heap now number seat move) seat.loaded []) refl;
    }

-- the new value is shaded
pub point_stands_at_shading_new : PointStands (points.Access ShadingNew)
point_stands_at_shading_new heap number seat here = record {
  step = shade_step_stands heap (unwrap_or (register_head (new_register_of seat)) 0)
      (register_head_within_heap heap (new_register_of seat) here.way.2 (each_register_fits heap seat.registers (source_of seat.command) here.fits.own.registers_fit));
  fits = λ found small led. fits_at_access heap seat seat.reached seat.links seat.part seat.loaded Swapping (access_point_rests heap number seat ShadingNew here) here.fits.way.reached_within here.fits.way.loaded_within
      (here.way.0, λ off. left_aside_is_absurd off here.way.1);
  near = λ found. record { fewer = omega arith; paid = omega arith };
  adds = λ now. adds_where_none_awaited heap now number seat (shade_new_move seat) refl (rw here.point_is refl) refl refl;
}

-- the field gets its new word
pub point_stands_at_swapping : PointStands (points.Access Swapping)
point_stands_at_swapping heap number seat here =
    let fit : FitsRegister heap (new_register_of seat) = each_register_fits heap seat.registers (source_of seat.command) here.fits.own.registers_fit in
    let small_stamp : set_stamp number (seat.sets + 1) < 2 ^ 32 = omega (arith, here.few, set_has_stamp_left seat.command seat.made seat.sets here.way.0.1 here.way.0.0.numbered) in
    let groups : 16 * heap.groups ≤ 2 ^ 16 = omega (arith, here.limits.groups_fit) in
    record {
      step = record {
        in_table = (here.fits.way.reached_within, here.way.0.2.part_within);
        wide = λ found small. register_word_fits_bits heap (new_register_of seat) (set_stamp number (seat.sets + 1)) groups fit small_stamp;
        leads = λ found led. register_leads_within_heap heap (new_register_of seat) (set_stamp number (seat.sets + 1)) seat.part groups fit small_stamp;
      };
      fits = λ found small led. fits_after_sets heap seat seat.registers seat.seen (seat.sets + 1) (access_point_rests heap number seat Swapping here) here.fits.own.registers_whole here.fits.own.registers_fit;
      near = λ found. record { fewer = omega arith; paid = omega arith };
      adds = λ now. adds_where_none_awaited heap now number seat (swap_move number seat) refl (rw here.point_is refl) refl refl;
    }
