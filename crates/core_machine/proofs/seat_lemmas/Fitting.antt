-- A seat's own data go on fitting together, whatever words it finds.
use Rattle.std.proofs.Common.{suc, ◌≡◌, ℕ, ◌+◌, ◌*◌, ◌/◌, ◌<◌, ◌≤◌, cond, leb, List, [], ◌∷◌, length, take, drop, inl, inr, refl, subst, sym, append-nil, length-append, length-take, length-drop, arith}
use Rattle.std.specs.List.{All}
use Rattle.std.proofs.lemmas.Bool.Decides.{leb_tells, eqb_tells}
use Rattle.std.proofs.lemmas.List.Elements.{All-append, All-drop, All-take, All-nil}
use Rattle.heap_words.specs.declared.spot.Spot.{Spot}
use Rattle.core_machine.proofs.Terms.{Heap, Command, New, Array, spine_need_of, Withdrawing, Gathering, GivingBack, Refusing, Placing, Listing, Storing, MakesObject, IsRecordCall}
use Rattle.core_machine.proofs.Terms.{IsArrayCall, FitsSpot, Seat, need, spine_need, fragments_gathered, settled_point, after_gather, after_shortage, refusal_point, gather_next}
use Rattle.core_machine.proofs.Terms.{after_budget, list_point, last_claimed, next_group_of, AreFragments, HasNoSpine, IsAtRest, MakesNext, SeatIsRefusing, HasBody, IsUnstored}
use Rattle.core_machine.proofs.Terms.{SpineIsListed, FitsMaking, OwnFits, Fits}
use Rattle.heap_model.specs.Command.{IsCommand}
use Rattle.heap_model.specs.account.Space.{need_of}
use Rattle.core_machine.specs.declared.point.Point.TheVariants as points
use Rattle.core_machine.specs.declared.point.Making.{Making}
use Rattle.core_machine.proofs.seat_lemmas.Aside.{IsAside, left_aside_is_absurd, no_spot_fits, aside_way_fits}
use Rattle.core_machine.proofs.table_lemmas.Owned.{group_fragments_within_heap}

-- an object has at least one fragment, and at most one and 1024
pub object_need_within_limits : (command : Command) → MakesObject command → IsCommand command → (1 ≤ need_of command) × (need_of command ≤ 1025)
object_need_within_limits (New d fields) makes range = (omega arith, omega (arith, range.1.1))
object_need_within_limits (Array d cells) makes range = (omega arith, omega (arith, range.1.1))
object_need_within_limits _ makes range = absurd makes

-- an array has at least one spine word and at most 1024, and one fragment more than spine words
pub array_words_within_limits : (command : Command) → IsArrayCall command → IsCommand command
    → (1 ≤ spine_need_of command) × (spine_need_of command ≤ 1024) × (need_of command ≡ 1 + spine_need_of command)
array_words_within_limits (Array d cells) an_array range = (omega (arith, range.1.0), omega (arith, range.1.1), refl)
array_words_within_limits _ an_array range = absurd an_array

-- an array is an object, and so is a record
pub array_makes_object : (command : Command) → IsArrayCall command → MakesObject command
array_makes_object (Array d cells) an_array = tt
array_makes_object _ an_array = absurd an_array

pub record_makes_object : (command : Command) → IsRecordCall command → MakesObject command
record_makes_object (New d fields) a_record = tt
record_makes_object _ a_record = absurd a_record

-- all words of an array's spine are stored when as many were stored as it needs
pub spine_is_all_listed : (command : Command) (spine : Spot) (listed : ℕ) → IsArrayCall command → listed ≡ spine_need_of command → SpineIsListed command spine listed
spine_is_all_listed (Array d cells) spine listed an_array all = all
spine_is_all_listed _ spine listed an_array all = absurd an_array

-- a seat goes on in one of three ways
pub goes_on_cases : (P : Seat → Type 0) (heap : Heap) (seat : Seat) → (need seat ≤ length (fragments_gathered seat) → P (after_gather heap seat))
    → (length (fragments_gathered seat) < need seat → seat.tried < heap.groups → P (record seat { point = points.Making Gathering }))
    → (length (fragments_gathered seat) < need seat → heap.groups ≤ seat.tried → P (after_shortage seat)) → P (gather_next heap seat)
goes_on_cases P heap seat enough more few =
    elim (leb_tells (need seat) (length (fragments_gathered seat))) as (λ _. P (gather_next heap seat)) [
      | inl yes_ ↦ rw yes_.0 (enough yes_.1)
      | inr lacks ↦ rw lacks.0 (elim (leb_tells (suc seat.tried) heap.groups) as (λ _. P (cond (leb (suc seat.tried) heap.groups) (record seat { point = points.Making Gathering }) (after_shortage seat))) [
        | inl left ↦ rw left.0 (more lacks.1 left.1)
        | inr all ↦ rw all.0 (few lacks.1 (omega (arith, all.1)))
      ])
    ]

-- a refusal gives back, or is told
pub returning_cases : (P : Making → Type 0) (hand : List ℕ) → (hand ≡ [] → P Refusing) → (0 < length hand → P GivingBack) → P (refusal_point hand)
returning_cases P [] none some = none refl
returning_cases P (fragment ∷ more) none some = some (omega arith)

-- the spine words that were asked for are too many, or the gathering begins
pub budget_cases : (P : Seat → Type 0) (heap : Heap) (seat : Seat) (found : ℕ) → (heap.spine < found + spine_need seat → P (record seat { used = found; point = points.Making Withdrawing }))
    → (found + spine_need seat ≤ heap.spine → P (gather_next heap seat)) → P (after_budget heap seat found)
budget_cases P heap seat found lacks grants =
    elim (leb_tells (suc heap.spine) (found + spine_need seat)) as (λ _. P (after_budget heap seat found)) [ inl many ↦ rw many.0 (lacks many.1) | inr few ↦ rw few.0 (grants (omega (arith, few.1))) ]

-- what comes once an object has its fragments
pub settled_cases : (P : Making → Type 0) (command : Command) → (IsArrayCall command → P Placing) → ((IsArrayCall command → ⊥) → P Storing) → P (settled_point command)
settled_cases P (Array d cells) array other = array tt
settled_cases P _ array other = other (λ e. e)

-- what comes once a word of the spine is stored
pub listing_cases : (P : Making → Type 0) (listed words : ℕ) → (listed < words → P Listing) → (words ≤ listed → P Storing) → P (list_point listed words)
listing_cases P listed words more all = elim (leb_tells (suc listed) words) as (λ _. P (list_point listed words)) [ inl left ↦ rw left.0 (more left.1) | inr none ↦ rw none.0 (all (omega (arith, none.1))) ]

-- what is true of a seat before it goes on: some fragments are gathered, and those past the need are of the last group
pub record IsGathered (heap : Heap) (seat : Seat) : Type 0 where
  pub registers_whole : length seat.registers ≡ 16
  pub cursor_within : seat.cursor < heap.groups
  pub small_reserve : length seat.reserve ≤ 15
  pub reserve_of_cursor : All (λ fragment. fragment / 16 ≡ seat.cursor) seat.reserve
  pub hand_within : AreFragments heap seat.hand
  pub makes : MakesNext seat.command seat.made
  pub no_spine : HasNoSpine seat.used seat.spine seat.listed
  pub no_body : seat.body ≡ []
  pub none_stored : seat.stored ≡ 0
  pub none_given : seat.given ≡ 0
  pub tried_within : seat.tried ≤ heap.groups
  pub few : length seat.reserve + length seat.hand ≤ need seat + 15
  pub rest_of_last : All (λ fragment. fragment / 16 ≡ last_claimed heap seat) (drop (need seat) (fragments_gathered seat))
  pub aside : IsAside heap seat

pub last_claimed_within : (heap : Heap) (seat : Seat) → seat.cursor < heap.groups → last_claimed heap seat < heap.groups
last_claimed_within heap seat within =
    elim (eqb_tells seat.tried 0) as (λ _. last_claimed heap seat < heap.groups) [ inl e ↦ rw e.0 within | inr e ↦ rw e.0 (omega arith) ]

-- where no spine has its place yet, its place is some spot
no_spine_fits : (used : ℕ) (spine : Spot) (listed : ℕ) → HasNoSpine used spine listed → FitsSpot spine
no_spine_fits used spine listed none = subst FitsSpot (sym none.no_place) no_spot_fits

-- a record has no spine
listed_none : (command : Command) (used : ℕ) (spine : Spot) (listed : ℕ) → MakesObject command → (IsArrayCall command → ⊥) → HasNoSpine used spine listed → SpineIsListed command spine listed
listed_none (New d fields) used spine listed makes other none = (none.no_place, none.none_listed)
listed_none (Array d cells) used spine listed makes other none = absurd (other tt)
listed_none _ used spine listed makes other none = absurd makes

-- an object that has its fragments stands at its next point
fits_settled_point : (heap : Heap) (seat : Seat) → HasBody seat → IsUnstored seat.hand seat.body seat.stored → 1 ≤ length seat.body → HasNoSpine seat.used seat.spine seat.listed
    → FitsMaking heap seat (settled_point seat.command)
fits_settled_point heap seat body unstored some none =
    settled_cases (FitsMaking heap seat) seat.command (λ an_array. ((body, an_array, unstored), none))
    (λ other. (body, unstored.all_unborn, omega (arith, unstored.none_stored), listed_none seat.command seat.used seat.spine seat.listed body.makes.an_object other none))

fits_settled : (heap : Heap) (seat : Seat) → IsGathered heap seat → need seat ≤ length (fragments_gathered seat) → Fits heap (after_gather heap seat)
fits_settled heap seat is enough =
    let some = object_need_within_limits seat.command is.makes.an_object is.makes.in_range in
    let all : AreFragments heap (fragments_gathered seat) =
    All-append (λ fragment. fragment < 16 * heap.groups) seat.reserve seat.hand
    (group_fragments_within_heap heap seat.cursor seat.reserve is.cursor_within is.reserve_of_cursor) is.hand_within in
    let used : AreFragments heap (take (need seat) (fragments_gathered seat)) =
    All-take (λ fragment. fragment < 16 * heap.groups) (need seat) (fragments_gathered seat) all in
    let long = length-append seat.reserve seat.hand in
    let whole : length (take (need seat) (fragments_gathered seat)) ≡ need seat = omega (arith, length-take (need seat) (fragments_gathered seat)) in
    record {
      own = record {
        registers_whole = is.registers_whole;
        registers_fit = is.aside.registers_fit;
        cursor_within = last_claimed_within heap seat is.cursor_within;
        small_reserve = omega (arith, length-drop (need seat) (fragments_gathered seat), is.few);
        reserve_of_cursor = is.rest_of_last;
      };
      hand = record {
        hand_within = used;
        body_within = used;
        spine_within = no_spine_fits seat.used seat.spine seat.listed is.no_spine;
      };
      way = aside_way_fits heap seat is.aside;
      asked_small = is.aside.asked_small;
      way_at_point = is.aside.nowhere;
      answer_at_point = is.aside.silent;
      gone = left_aside_is_absurd is.aside.present;
      at_point = fits_settled_point heap (after_gather heap seat)
          (record { makes = is.makes; whole = whole; none_tried = refl; none_given = is.none_given; none_used = is.no_spine.none_used })
          (record { all_unborn = refl; none_stored = is.none_stored }) (omega (arith, some.0, whole)) is.no_spine;
    }

-- the point of a refusal tells whether anything is to be given back
pub refusal_point_fits : (heap : Heap) (seat : Seat) (hand : List ℕ) → SeatIsRefusing heap seat → seat.hand ≡ hand
    → FitsMaking heap seat (refusal_point hand)
refusal_point_fits heap seat [] refuses is = (refuses, is)
refusal_point_fits heap seat (fragment ∷ more) refuses is = (refuses, rw is (omega arith))

-- what is gathered goes on to a point of making that it fits
fits_gathered : (heap : Heap) (seat : Seat) (point : Making) → IsGathered heap seat → FitsMaking heap (record seat { point = points.Making point }) point
    → Fits heap (record seat { point = points.Making point })
fits_gathered heap seat point is at_point = record {
  own = record {
    registers_whole = is.registers_whole;
    registers_fit = is.aside.registers_fit;
    cursor_within = is.cursor_within;
    small_reserve = is.small_reserve;
    reserve_of_cursor = is.reserve_of_cursor;
  };
  hand = record {
    hand_within = is.hand_within;
    body_within = rw is.no_body (All-nil (λ fragment. fragment < 16 * heap.groups));
    spine_within = no_spine_fits seat.used seat.spine seat.listed is.no_spine;
  };
  way = aside_way_fits heap seat is.aside;
  asked_small = is.aside.asked_small;
  at_point = at_point;
  way_at_point = is.aside.nowhere;
  answer_at_point = is.aside.silent;
  gone = left_aside_is_absurd is.aside.present;
}

fits_gathering : (heap : Heap) (seat : Seat) → IsGathered heap seat → seat.tried < heap.groups
    → length seat.reserve + length seat.hand < need seat → Fits heap (record seat { point = points.Making Gathering })
fits_gathering heap seat is left few = fits_gathered heap seat Gathering is
    record { makes = is.makes; no_spine = is.no_spine; no_body = is.no_body; none_stored = is.none_stored; none_given = is.none_given; groups_left = left; too_few = few }

fits_refused : (heap : Heap) (seat : Seat) → IsGathered heap seat → seat.tried ≡ heap.groups
    → length seat.reserve + length seat.hand < need seat → Fits heap (after_shortage seat)
fits_refused heap seat is all few = fits_gathered heap seat (refusal_point seat.hand) is
    (refusal_point_fits heap (after_shortage seat) seat.hand
    (record { makes = is.makes; no_spine = is.no_spine; no_body = is.no_body; none_stored = is.none_stored; all_tried = all; too_few = omega (arith, is.none_given) }) refl)

pub fits_going_on : (heap : Heap) (seat : Seat) → IsGathered heap seat → Fits heap (gather_next heap seat)
fits_going_on heap seat is =
    let long = length-append seat.reserve seat.hand in
    goes_on_cases (Fits heap) heap seat (λ enough. fits_settled heap seat is enough) (λ few left. fits_gathering heap seat is left (omega arith))
    (λ few all. fits_refused heap seat is (omega (arith, is.tried_within)) (omega arith))

-- a seat with nothing in its hand that makes an object
pub gathered_at_rest : (heap : Heap) (seat : Seat) → OwnFits heap seat.registers seat.reserve seat.cursor → IsAside heap seat → IsAtRest seat → MakesNext seat.command seat.made → IsGathered heap seat
gathered_at_rest heap seat own aside rest makes = record {
  registers_whole = own.registers_whole;
  cursor_within = own.cursor_within;
  small_reserve = own.small_reserve;
  reserve_of_cursor = own.reserve_of_cursor;
  hand_within = rw rest.empty_hand (All-nil (λ fragment. fragment < 16 * heap.groups));
  makes = makes;
  no_spine = rest.no_spine;
  no_body = rest.no_body;
  none_stored = rest.none_stored;
  none_given = rest.none_given;
  tried_within = omega (arith, rest.none_tried);
  few = rw rest.empty_hand (omega (arith, own.small_reserve));
  rest_of_last = rw (rest.none_tried, rest.empty_hand, append-nil seat.reserve) (All-drop (λ fragment. fragment / 16 ≡ seat.cursor) (need seat) seat.reserve own.reserve_of_cursor);
  aside = aside;
}

-- the group that is claimed next
pub next_group_within_heap : (heap : Heap) (seat : Seat) → seat.cursor < heap.groups → next_group_of heap seat < heap.groups
next_group_within_heap heap seat within = omega arith
