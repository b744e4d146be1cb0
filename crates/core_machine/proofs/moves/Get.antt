-- A get loads its field, and the name of what that refers to.
use Rattle.std.proofs.Common.{◌≡◌, ℕ, ◌^◌, ◌<◌, length, refl, arith, List, ◌++◌, subst, sym, append-nil, Option, Some, None}
use Rattle.std.specs.Prelude.{IsSome}
use Rattle.heap_words.specs.Cell.{cell_of}
use Rattle.heap_words.specs.declared.kind.Kind.{Kind}
use Rattle.heap_words.specs.declared.kind.Kind.TheVariants as kinds
use Rattle.core_machine.proofs.Terms.{Heap, Getting, Naming, Object, Word, found_by, entries_awaited, Fits, FitsRegister, SeatIsAtGet, after_get, Seat, with_entries, head_of}
use Rattle.core_machine.proofs.Terms.{stamp_of, id_of, plain_of, plain_register, IsWithinHeap, Nears}
use Rattle.core_machine.specs.declared.point.Point.TheVariants as points
use Rattle.core_machine.specs.seat.AccessMoves.{loaded_head_of, got_adds, got_shows, get_move, name_move}
use Rattle.core_machine.proofs.call_lemmas.Awaits.{after_words}
use Rattle.core_machine.proofs.moves.Standing.{PointStands, access_point_rests}
use Rattle.core_machine.proofs.seat_lemmas.FittingAccess.{Rests, fits_at_access, fits_with_register}
use Rattle.core_machine.proofs.table_lemmas.Addresses.{put_of_read_changes_nothing}
use Rattle.core_machine.proofs.table_lemmas.StepStands.{load_step_stands}
use Rattle.core_machine.proofs.table_lemmas.WithinHeap.{head_leads_within_heap, some_fragment_within_heap}

-- a number in a word has thirty bits
plain_fits : (heap : Heap) (kind : Kind) (value : ℕ) → value < 2 ^ 30 → FitsRegister heap (plain_register kind value)
plain_fits heap kinds.Nil value small = tt
plain_fits heap kinds.Number value small = small
plain_fits heap kinds.Reference value small = tt
plain_fits heap kinds.Fixed value small = tt

-- a get's field was found
fits_got : (heap : Heap) (seat : Seat) (found : ℕ) (head : Option ℕ) → Rests heap seat → SeatIsAtGet seat → head_of found ≡ head → IsWithinHeap heap head
    → Fits heap (after_get seat found head)
fits_got heap seat found None rests is none led =
    fits_with_register heap seat (plain_of found) (stamp_of found) rests (plain_fits heap (cell_of found).kind (cell_of found).value (omega arith))
fits_got heap seat found (Some head) rests is some led =
    fits_at_access heap seat seat.reached seat.links seat.part found Naming rests rests.fits.way.reached_within (subst (IsWithinHeap heap) (sym some) led)
    (is, subst IsSome (sym some) refl)

nears_got : (heap : Heap) (number : ℕ) (seat : Seat) (found : ℕ) (head : Option ℕ)
    → Nears heap (with_entries (after_get seat found head) (got_adds number seat found head)) 1 2 (length (got_adds number seat found head))
nears_got heap number seat found None = record { fewer = omega arith; paid = omega arith }
nears_got heap number seat found (Some head) = record { fewer = omega arith; paid = omega arith }

module _ (heap : Heap) (number : ℕ) (seat : Seat) where
  got_awaits : (words : List ℕ) (found : ℕ) (head : Option ℕ) → head_of found ≡ head
      → ((after_get seat found head).mine ≡ seat.mine)
      × (got_adds number seat found head ++ entries_awaited heap words number (with_entries (after_get seat found head) (got_adds number seat found head)) ≡ got_shows heap number seat words found head)
  got_awaits words found None is = (refl, append-nil (got_adds number seat found None))
  got_awaits words found (Some head) is = (refl, rw is refl)

-- the field is loaded
pub point_stands_at_getting : PointStands (points.Access Getting)
point_stands_at_getting heap number seat here =
    let move = get_move heap number seat in
    record {
      step = load_step_stands heap move.step refl (here.fits.way.reached_within, here.way.0.2.part_within);
      fits = λ found small led. fits_got heap seat found (head_of found) (access_point_rests heap number seat Getting here) here.way.0 refl (head_leads_within_heap heap seat.part found led);
      near = λ found. nears_got heap number seat found (head_of found);
      adds = λ now. let found = found_by heap now move.step in
          let same : after_words heap now number seat move ≡ now.words = put_of_read_changes_nothing heap now.words (Word seat.reached seat.part) in
          let by = got_awaits heap number seat now.words found (head_of found) refl in
          record { kept = by.0; told = rw (same, here.point_is) by.1 };
    }

-- the name is loaded
pub point_stands_at_naming : PointStands (points.Access Naming)
point_stands_at_naming heap number seat here = record {
  step = load_step_stands heap (name_move number seat).step refl (some_fragment_within_heap heap (head_of seat.loaded) here.way.1 here.fits.way.loaded_within, omega arith);
  fits = λ found small led. fits_with_register heap seat (Object (loaded_head_of seat) (id_of found)) (stamp_of seat.loaded) (access_point_rests heap number seat Naming here)
      (some_fragment_within_heap heap (head_of seat.loaded) here.way.1 here.fits.way.loaded_within);
  near = λ found. record { fewer = omega arith; paid = omega arith };
  adds = λ now. record { kept = refl; told = rw here.point_is refl };
}
