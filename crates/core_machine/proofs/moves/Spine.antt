-- The way to a cell of an array, by its spine.
use Rattle.std.proofs.Common.{ℕ, ◌*◌, ◌<◌, [], refl, arith}
use Rattle.core_machine.proofs.Terms.{Heap, LoadingSpot, Indexing, found_by, after_index, field_point_of, row_of, field_of, Fits, SeatIsAtSentinel, Seat, with_entries, payload_in}
use Rattle.core_machine.proofs.Terms.{Nears}
use Rattle.core_machine.specs.declared.point.Point.TheVariants as points
use Rattle.heap_words.specs.Spot.{spot_in}
use Rattle.core_machine.specs.seat.AccessMoves.{locate_move, index_move}
use Rattle.core_machine.proofs.call_lemmas.Awaits.{adds_where_none_awaited, after_words}
use Rattle.core_machine.proofs.moves.Standing.{PointStands, access_point_rests}
use Rattle.core_machine.proofs.moves.Walk.{field_point_fits, field_has_few_steps, field_awaits_none}
use Rattle.core_machine.proofs.seat_lemmas.FittingAccess.{Rests, fits_at_access, fits_with_address}
use Rattle.core_machine.proofs.table_lemmas.StepStands.{load_step_stands}

-- the place of the spine is loaded
pub point_stands_at_locating : PointStands (points.Access LoadingSpot)
point_stands_at_locating heap number seat here =
    let move = locate_move seat in
    record {
      step = load_step_stands heap move.step refl (here.fits.way.reached_within, omega arith);
      fits = λ found small led. fits_with_address heap seat (spot_in found) Indexing (access_point_rests heap number seat LoadingSpot here) (record { half_within = omega arith; offset_within = omega arith }) here.way;
      near = λ found. record { fewer = omega arith; paid = omega arith };
      adds = λ now. adds_where_none_awaited heap now number seat move refl (rw here.point_is refl) refl refl;
    }

-- the cell's fragment was reached, which the spine word names
fits_indexed : (heap : Heap) (seat : Seat) (found : ℕ) → Rests heap seat → SeatIsAtSentinel seat → payload_in found < 16 * heap.groups → Fits heap (after_index seat found)
fits_indexed heap seat found rests is within =
    let point = field_point_of seat seat.command in
    let there = record seat { reached = payload_in found; point = points.Access point } in
    fits_at_access heap seat (payload_in found) seat.links seat.part seat.loaded point rests within rests.fits.way.loaded_within
    (field_point_fits there seat.command refl is.works is.names (record { arrived = is.no_links; part_within = is.part_within }) is.none_loaded)

nears_indexed : (heap : Heap) (seat : Seat) (found : ℕ) → Nears heap (with_entries (after_index seat found) []) 1 5 0
nears_indexed heap seat found = let few = field_has_few_steps (row_of (field_of seat.command)) seat.links seat seat.command in record { fewer = omega (arith, few); paid = omega arith }

-- the spine word is loaded that names the cell's fragment
pub point_stands_at_indexing : PointStands (points.Access Indexing)
point_stands_at_indexing heap number seat here =
    let move = index_move seat in
    record {
      step = load_step_stands heap move.step refl here.fits.way.address_within.half_within;
      fits = λ found small led. fits_indexed heap seat found (access_point_rests heap number seat Indexing here) here.way led;
      near = λ found. nears_indexed heap seat found;
      adds = λ now. let found = found_by heap now move.step in
          adds_where_none_awaited heap now number seat move refl (rw here.point_is refl)
          (field_awaits_none heap (after_words heap now number seat move) number seat (with_entries (after_index seat found) []) seat.command) refl;
    }
