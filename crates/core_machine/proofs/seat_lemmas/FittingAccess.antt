-- A seat's own data go on fitting together while it reads or writes an object, where the words that it finds lead within the heap.
use Rattle.std.proofs.Common.{◌≡◌, ℕ, ◌*◌, ◌<◌, false, List, length, set, ◌∙◌}
use Rattle.std.specs.List.{All}
use Rattle.std.proofs.lemmas.List.{length-set}
use Rattle.std.proofs.lemmas.List.Elements.{All-set}
use Rattle.heap_words.specs.declared.spot.Spot.{Spot}
use Rattle.core_machine.proofs.Terms.{Heap, Register, target_of, head_of, IsWithinHeap, FitsSpot, Seat, after_call, with_register_filled, FitsAccess, FitsRegister, IsAtRest}
use Rattle.core_machine.proofs.Terms.{IsSilent, Fits}
use Rattle.core_machine.specs.declared.point.Point.TheVariants as points
use Rattle.core_machine.specs.declared.point.Access.{Access}
use Rattle.core_machine.proofs.seat_lemmas.Aside.{left_aside_is_absurd, fits_after_call}

-- what a call that makes nothing leaves alone
pub record Rests (heap : Heap) (seat : Seat) : Type 0 where
  pub fits : Fits heap seat
  pub rest : IsAtRest seat
  pub silent : IsSilent seat
  pub present : seat.left ≡ false

-- the seat with another way, at this point of access
fits_way : (heap : Heap) (seat : Seat) (reached links part : ℕ) (address : Spot) (loaded : ℕ) (point : Access) → Rests heap seat → reached < 16 * heap.groups → FitsSpot address
    → IsWithinHeap heap (head_of loaded)
    → FitsAccess (record seat { reached = reached; links = links; part = part; address = address; loaded = loaded; point = points.Access point }) point
    → Fits heap (record seat { reached = reached; links = links; part = part; address = address; loaded = loaded; point = points.Access point })
fits_way heap seat reached links part address loaded point rests within there led way = record {
  own = rests.fits.own;
  hand = rests.fits.hand;
  way = record { reached_within = within; address_within = there; loaded_within = led };
  asked_small = rests.fits.asked_small;
  at_point = rests.rest;
  way_at_point = way;
  answer_at_point = rests.silent;
  gone = left_aside_is_absurd rests.present;
}

-- the seat at another point of reaching
pub fits_at_access : (heap : Heap) (seat : Seat) (reached links part loaded : ℕ) (point : Access) → Rests heap seat → reached < 16 * heap.groups
    → IsWithinHeap heap (head_of loaded)
    → FitsAccess (record seat { reached = reached; links = links; part = part; loaded = loaded; point = points.Access point }) point
    → Fits heap (record seat { reached = reached; links = links; part = part; loaded = loaded; point = points.Access point })
fits_at_access heap seat reached links part loaded point rests within led way =
    fits_way heap seat reached links part seat.address loaded point rests within rests.fits.way.address_within led way

-- the seat knows where the spine stands of the array that its way is in
pub fits_with_address : (heap : Heap) (seat : Seat) (address : Spot) (point : Access) → Rests heap seat → FitsSpot address → FitsAccess (record seat { address = address; point = points.Access point }) point
    → Fits heap (record seat { address = address; point = points.Access point })
fits_with_address heap seat address point rests there way =
    fits_way heap seat seat.reached seat.links seat.part address seat.loaded point rests rests.fits.way.reached_within there rests.fits.way.loaded_within way

-- the call is over, with these registers, seen under these stamps, and so many sets
pub fits_after_sets : (heap : Heap) (seat : Seat) (registers : List Register) (seen : List ℕ) (sets : ℕ) → Rests heap seat → length registers ≡ 16
    → All (FitsRegister heap) registers → Fits heap (after_call (record seat { registers = registers; seen = seen; sets = sets }))
fits_after_sets heap seat registers seen sets rests whole fit =
    let fits = rests.fits in
    fits_after_call heap (record seat { registers = registers; seen = seen; sets = sets }) whole fit fits.own.cursor_within fits.own.small_reserve fits.own.reserve_of_cursor (left_aside_is_absurd rests.present)

-- a register got another value, and the call is over
pub fits_with_register : (heap : Heap) (seat : Seat) (register : Register) (stamp : ℕ) → Rests heap seat → FitsRegister heap register → Fits heap (with_register_filled seat register stamp)
fits_with_register heap seat register stamp rests fit =
    fits_after_sets heap seat (set seat.registers (target_of seat.command) register) (set seat.seen (target_of seat.command) stamp) seat.sets rests
    (length-set seat.registers (target_of seat.command) register ∙ rests.fits.own.registers_whole)
    (All-set (FitsRegister heap) seat.registers (target_of seat.command) register fit rests.fits.own.registers_fit)
