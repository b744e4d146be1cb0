-- What making an object leaves alone.
use Rattle.std.proofs.Common.{◌≡◌, ℕ, ◌*◌, ◌/◌, ◌^◌, ◌<◌, ◌≤◌, Bool, true, false, List, [], length, refl, subst, sym, ◌∙◌, arith}
use Rattle.std.specs.List.{All}
use Rattle.std.proofs.lemmas.List.Elements.{All-nil}
use Rattle.heap_words.specs.declared.spot.Spot.{Spot}
use Rattle.core_machine.proofs.Terms.{Heap, Point, Register, head_of, IsWithinHeap, FitsSpot, Seat, no_spot, call_over, after_call, HasNoWay, IsNowhere, FitsRegister, FitsWay}
use Rattle.core_machine.proofs.Terms.{FitsAnswer, HasNoAnswer, IsAtRest, IsSilent, HandFits, WayFits, Fits, FitsPoint, AreFragments}
use Rattle.core_machine.specs.declared.point.Point.TheVariants as points
use Rattle.core_machine.specs.seat.Looks.{forgotten}

-- the registers fit, nothing is reached, loaded or about to be answered, and the seat hasn't left
pub record StandsAside (heap : Heap) (registers : List Register) (reached links part : ℕ) (address : Spot) (loaded asked shaded : ℕ) (left : Bool) : Type 0 where
  pub registers_fit : All (FitsRegister heap) registers
  pub reached_within : reached < 16 * heap.groups
  pub address_within : FitsSpot address
  pub loaded_within : IsWithinHeap heap (head_of loaded)
  pub asked_small : asked < 2 ^ 64
  pub nowhere : HasNoWay reached links part address loaded
  pub silent : HasNoAnswer asked shaded
  pub present : left ≡ false

abbrev pub IsAside : Heap → Seat → Type 0
IsAside heap seat = StandsAside heap seat.registers seat.reached seat.links seat.part seat.address seat.loaded seat.asked seat.shaded seat.left

-- who hasn't left isn't gone
pub left_aside_is_absurd : {G : Type 0} {left : Bool} → left ≡ false → left ≡ true → G
left_aside_is_absurd present gone = let not : false ≡ true = sym present ∙ gone in absurd (differ not)
  where
    differ : false ≡ true → ⊥
    differ e = cc

-- a seat with a call in flight hasn't left
pub busy_has_not_left : (heap : Heap) (seat : Seat) (point : Point) → Fits heap seat → seat.point ≡ point → (point ≡ points.Idle → ⊥) → seat.left ≡ false
busy_has_not_left heap seat point fits here busy = by seat.left (λ gone. busy (sym here ∙ (fits.gone gone).idle)) where
  by : (left : Bool) → (left ≡ true → ⊥) → left ≡ false
  by false no_ = refl
  by true no_ = absurd (no_ refl)

-- while no call is in flight
pub idle_is_aside : (heap : Heap) (seat : Seat) → Fits heap seat → seat.point ≡ points.Idle → seat.left ≡ false → IsAside heap seat
idle_is_aside heap seat fits here present = record {
  registers_fit = fits.own.registers_fit;
  reached_within = fits.way.reached_within;
  address_within = fits.way.address_within;
  loaded_within = fits.way.loaded_within;
  asked_small = fits.asked_small;
  nowhere = subst (FitsWay seat) here fits.way_at_point;
  silent = subst (FitsAnswer seat) here fits.answer_at_point;
  present = present;
}

-- the seat with another hand and another place of its spine, elsewhere in its making or through with it
abbrev with_making : Seat → List ℕ → ℕ → ℕ → ℕ → ℕ → Spot → ℕ → Point → Seat
with_making seat hand stored tried given used spine listed point =
    record seat { hand = hand; stored = stored; tried = tried; given = given; used = used; spine = spine; listed = listed; point = point }

fits_with_making : (heap : Heap) (seat : Seat) (hand : List ℕ) (stored tried given used : ℕ) (spine : Spot) (listed : ℕ) (point : Point) → Fits heap seat → IsAside heap seat
    → AreFragments heap hand → FitsSpot spine → FitsPoint heap (with_making seat hand stored tried given used spine listed point) point
    → FitsWay (with_making seat hand stored tried given used spine listed point) point → FitsAnswer (with_making seat hand stored tried given used spine listed point) point
    → Fits heap (with_making seat hand stored tried given used spine listed point)
fits_with_making heap seat hand stored tried given used spine listed point fits aside within there at_point way answer = record {
  own = fits.own;
  hand = record { hand_within = within; body_within = fits.hand.body_within; spine_within = there };
  way = fits.way;
  asked_small = aside.asked_small;
  at_point = at_point;
  way_at_point = way;
  answer_at_point = answer;
  gone = left_aside_is_absurd aside.present;
}

-- with another hand alone
abbrev pub with_hand : Seat → List ℕ → ℕ → ℕ → ℕ → Point → Seat
with_hand seat hand stored tried given point = record seat { hand = hand; stored = stored; tried = tried; given = given; point = point }

pub fits_with_hand : (heap : Heap) (seat : Seat) (hand : List ℕ) (stored tried given : ℕ) (point : Point) → Fits heap seat → IsAside heap seat → AreFragments heap hand
    → FitsPoint heap (with_hand seat hand stored tried given point) point → FitsWay (with_hand seat hand stored tried given point) point
    → FitsAnswer (with_hand seat hand stored tried given point) point → Fits heap (with_hand seat hand stored tried given point)
fits_with_hand heap seat hand stored tried given point fits aside within at_point way answer =
    fits_with_making heap seat hand stored tried given seat.used seat.spine seat.listed point fits aside within fits.hand.spine_within at_point way answer

-- with another place of its spine alone, and with other counts of spine words
abbrev pub with_spine : Seat → ℕ → Spot → ℕ → Point → Seat
with_spine seat used spine listed point = record seat { used = used; spine = spine; listed = listed; point = point }

pub fits_with_spine : (heap : Heap) (seat : Seat) (used : ℕ) (spine : Spot) (listed : ℕ) (point : Point) → Fits heap seat → IsAside heap seat → FitsSpot spine
    → FitsPoint heap (with_spine seat used spine listed point) point → FitsWay (with_spine seat used spine listed point) point
    → FitsAnswer (with_spine seat used spine listed point) point → Fits heap (with_spine seat used spine listed point)
fits_with_spine heap seat used spine listed point fits aside within at_point way answer =
    fits_with_making heap seat seat.hand seat.stored seat.tried seat.given used spine listed point fits aside fits.hand.hand_within within at_point way answer

-- the spot at no spine is one
pub no_spot_fits : FitsSpot no_spot
no_spot_fits = record { half_within = omega arith; offset_within = omega arith }

-- nothing is in a hand that fits
pub empty_hand_fits : (heap : Heap) → HandFits heap [] [] no_spot
empty_hand_fits heap =
    record { hand_within = All-nil (λ fragment. fragment < 16 * heap.groups); body_within = All-nil (λ fragment. fragment < 16 * heap.groups); spine_within = no_spot_fits }

-- nor is anything reached or loaded
pub empty_way_fits : (heap : Heap) → 0 < heap.groups → WayFits heap 0 no_spot 0
empty_way_fits heap some = record { reached_within = omega (arith, some); address_within = no_spot_fits; loaded_within = tt }

-- what a seat has reached and loaded is within the heap
pub aside_way_fits : (heap : Heap) (seat : Seat) → IsAside heap seat → WayFits heap seat.reached seat.address seat.loaded
aside_way_fits heap seat aside = record { reached_within = aside.reached_within; address_within = aside.address_within; loaded_within = aside.loaded_within }

-- the call is over: of the seat's own data its registers, its reserve and its cursor matter alone
pub fits_after_call : (heap : Heap) (seat : Seat) → length seat.registers ≡ 16 → All (FitsRegister heap) seat.registers → seat.cursor < heap.groups → length seat.reserve ≤ 15
    → All (λ fragment. fragment / 16 ≡ seat.cursor) seat.reserve → (seat.left ≡ true → seat.reserve ≡ []) → Fits heap (after_call seat)
fits_after_call heap seat whole fit cursor small of_cursor gone = record {
  own = record {
    registers_whole = whole;
    registers_fit = fit;
    cursor_within = cursor;
    small_reserve = small;
    reserve_of_cursor = of_cursor;
  };
  hand = empty_hand_fits heap;
  way = empty_way_fits heap (omega (arith, cursor));
  asked_small = omega arith;
  at_point = record { empty_hand = refl; no_body = refl; none_stored = refl; none_tried = refl; none_given = refl; no_spine = record { none_used = refl; no_place = refl; none_listed = refl } };
  way_at_point = record { none_reached = refl; no_links = refl; no_part = refl; no_address = refl; none_loaded = refl };
  answer_at_point = record { none_asked = refl; none_shaded = refl };
  gone = λ left. record { idle = refl; no_reserve = gone left };
}

-- so it is where the call ends without a reply
pub fits_when_over : (heap : Heap) (seat : Seat) → Fits heap (after_call seat) → Fits heap (call_over seat)
fits_when_over heap seat fits = record {
  own = fits.own;
  hand = fits.hand;
  way = fits.way;
  asked_small = fits.asked_small;
  at_point = fits.at_point;
  way_at_point = fits.way_at_point;
  answer_at_point = fits.answer_at_point;
  gone = λ left. record { idle = refl; no_reserve = (fits.gone left).no_reserve };
}

rest_over : (seat : Seat) → seat.point ≡ points.Idle → IsAtRest seat → IsNowhere seat → IsSilent seat
    → call_over seat ≡ record seat { hand = seat.hand; body = seat.body; stored = seat.stored; tried = seat.tried; given = seat.given; used = seat.used; spine = seat.spine; listed = seat.listed; point = seat.point; reached = seat.reached; links = seat.links; part = seat.part; address = seat.address; loaded = seat.loaded; asked = seat.asked; shaded = seat.shaded }
rest_over seat here rest nowhere silent =
    rw (here, rest.empty_hand, rest.no_body, rest.none_stored, rest.none_tried, rest.none_given, rest.no_spine.none_used, rest.no_spine.no_place, rest.no_spine.none_listed, nowhere.none_reached, nowhere.no_links, nowhere.no_part, nowhere.no_address, nowhere.none_loaded, silent.none_asked, silent.none_shaded) refl

-- a seat without a call in flight has nothing of one
pub idle_call_over_same : (heap : Heap) (seat : Seat) → Fits heap seat → seat.point ≡ points.Idle → call_over seat ≡ seat
idle_call_over_same heap seat fits here =
    let rest : IsAtRest seat = subst (FitsPoint heap seat) here fits.at_point in
    let nowhere : IsNowhere seat = subst (FitsWay seat) here fits.way_at_point in
    let silent : IsSilent seat = subst (FitsAnswer seat) here fits.answer_at_point in
    rest_over seat here rest nowhere silent

-- a seat that makes nothing and answers no phase has its way alone of a call
pub call_over_clears_way : (seat : Seat) → IsAtRest seat → IsSilent seat → after_call seat ≡ record seat { reached = 0; links = 0; part = 0; address = no_spot; loaded = 0; point = points.Idle; looks = forgotten seat.looks }
call_over_clears_way seat rest silent = by where
  by : after_call seat ≡ record seat { hand = seat.hand; body = seat.body; stored = seat.stored; tried = seat.tried; given = seat.given; used = seat.used; spine = seat.spine; listed = seat.listed; reached = 0; links = 0; part = 0; address = no_spot; loaded = 0; point = points.Idle; asked = seat.asked; shaded = seat.shaded; looks = forgotten seat.looks }
  by = rw (rest.empty_hand, rest.no_body, rest.none_stored, rest.none_tried, rest.none_given, rest.no_spine.none_used, rest.no_spine.no_place, rest.no_spine.none_listed, silent.none_asked, silent.none_shaded) refl
