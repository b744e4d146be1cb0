-- What a call claims for a new object, gives back, and tells where too little is had.
use Rattle.std.proofs.Common.{◌≡◌, ℕ, ◌+◌, ◌-◌, ◌*◌, ◌/◌, ◌^◌, ◌<◌, ◌≤◌, false, [], length, inl, inr, refl, arith, eqb, List, ◌∷◌, ◌++◌, drop, subst, sym, length-append, append_assoc, length-take}
use Rattle.std.proofs.Math.Seq.{drop-append-add}
use Rattle.std.proofs.lemmas.Bool.Decides.{eqb_tells}
use Rattle.std.proofs.lemmas.List.Elements.{All-append, All-drop, All-filter}
use Rattle.std.proofs.lemmas.List.Filters.{length-filter_both}
use Rattle.std.proofs.lemmas.Nat.{and_le_r, or_lt}
use Rattle.std.specs.List.{All}
use Rattle.heap_model.specs.account.Space.{need_of}
use Rattle.core_machine.proofs.Terms.{Command, New, Entry, Heap, refusal_step, Gathering, GivingBack, Refusing, PollLoad, found_by, MayBegin, after_begin, entries_awaited, Fits}
use Rattle.core_machine.proofs.Terms.{MakesNext, SeatIsGathering, SeatIsRefusing, FitsPoint, after_gather, after_claim, after_give_back, next_group_of, first_group_of}
use Rattle.core_machine.proofs.Terms.{refusal_point, fragments_gathered, gather_next, Seat, need, spine_need, with_entries, clear_in, outside_group, in_group, out_of_group, inside_group}
use Rattle.core_machine.proofs.Terms.{mask_of, all_taken, owes_making, making_steps, Nears, owes}
use Rattle.heap_model.specs.declared.command.Command.TheVariants as commands
use Rattle.core_machine.specs.Moves.{takes_some}
use Rattle.core_machine.specs.declared.point.Point.TheVariants as points
use Rattle.core_machine.specs.seat.MakingMoves.{claim_move, inside_first_group, give_back_move, refusal_looks, refusal_move}
use Rattle.core_machine.proofs.call_lemmas.Awaits.{adds_where_none_awaited, after_words, own_list_same_going_on}
use Rattle.core_machine.proofs.moves.Standing.{PointStands, call_point_has_not_left, point_is_aside, CommandStands, ready_is_at_rest}
use Rattle.core_machine.proofs.seat_lemmas.Aside.{IsAside, left_aside_is_absurd, fits_after_call, fits_with_hand, idle_is_aside}
use Rattle.core_machine.proofs.seat_lemmas.Fitting.{object_need_within_limits, fits_going_on, refusal_point_fits, goes_on_cases, returning_cases, settled_cases, gathered_at_rest, next_group_within_heap}
use Rattle.core_machine.proofs.table_lemmas.Clear.{length-clear_among}
use Rattle.core_machine.proofs.table_lemmas.Filters.{outside_group_is_shorter}
use Rattle.core_machine.proofs.table_lemmas.Owned.{fragments_group_within_heap, clear_is_of_group, group_fragments_within_heap}
use Rattle.core_machine.proofs.table_lemmas.StepStands.{StepStands, load_step_stands, take_back_step_stands}

-- what is past the need after a claim is of the group that was claimed
claimed_rest : (group need : ℕ) (reserve hand more : List ℕ) → length reserve + length hand ≤ need
    → All (λ fragment. fragment / 16 ≡ group) more → All (λ fragment. fragment / 16 ≡ group) (drop need (reserve ++ (hand ++ more)))
claimed_rest group need reserve hand more few each =
    let long = length-append reserve hand in
    let past : need ≡ length (reserve ++ hand) + (need - length (reserve ++ hand)) = omega arith in
    subst (λ (n : ℕ). All (λ fragment. fragment / 16 ≡ group) (drop n (reserve ++ (hand ++ more)))) (sym past)
    (rw (← append_assoc reserve hand more, drop-append-add (reserve ++ hand) more (need - length (reserve ++ hand)))
    (All-drop (λ fragment. fragment / 16 ≡ group) (need - length (reserve ++ hand)) more each))

-- a group was claimed
fits_claimed : (heap : Heap) (seat : Seat) (found : ℕ) → Fits heap seat → IsAside heap seat → SeatIsGathering heap seat → Fits heap (after_claim heap seat found)
fits_claimed heap seat found fits aside is =
    let group = next_group_of heap seat in
    let long = length-append seat.hand (clear_in group found) in
    let some = length-clear_among group found 16 in
    let last : seat.cursor + (seat.tried + 1) - 1 ≡ seat.cursor + seat.tried = omega arith in
    let made_one : eqb (seat.tried + 1) 0 ≡ false = grind arith in
    fits_going_on heap (record seat { hand = seat.hand ++ clear_in group found; tried = seat.tried + 1 }) record {
      registers_whole = fits.own.registers_whole;
      cursor_within = fits.own.cursor_within;
      small_reserve = fits.own.small_reserve;
      reserve_of_cursor = fits.own.reserve_of_cursor;
      hand_within = All-append (λ fragment. fragment < 16 * heap.groups) seat.hand (clear_in group found) fits.hand.hand_within
          (group_fragments_within_heap heap group (clear_in group found) (next_group_within_heap heap seat fits.own.cursor_within) (clear_is_of_group group found));
      makes = is.makes;
      no_spine = is.no_spine;
      no_body = is.no_body;
      none_stored = is.none_stored;
      none_given = is.none_given;
      tried_within = omega (arith, is.groups_left);
      few = omega (arith, is.too_few);
      rest_of_last = rw (made_one, last) (claimed_rest group (need seat) seat.reserve seat.hand (clear_in group found) (omega (arith, is.too_few)) (clear_is_of_group group found));
      aside = aside;
    }

-- a claim that gets some adds one entry
takes_few : (number count : ℕ) → (length (takes_some number count) ≤ count) × (length (takes_some number count) ≤ 1)
takes_few number count =
    elim (eqb_tells count 0) as (λ _. (length (takes_some number count) ≤ count) × (length (takes_some number count) ≤ 1)) [
      | inl none ↦ rw none.0 (omega arith, omega arith)
      | inr some ↦ rw some.0 (omega arith, omega arith)
    ]

-- how near its end a call is that goes on with what is gathered
pub nears_gathered : (heap : Heap) (seat : Seat) (more : List Entry) (owed steps : ℕ) → MakesNext seat.command seat.made → seat.stored ≡ 0
    → (heap.groups - seat.tried) + 5 * need seat + spine_need seat + 1 < steps → 1 + length more ≤ owed
    → (length (fragments_gathered seat) < need seat → 2 * need seat - length (fragments_gathered seat) + length more ≤ owed)
    → Nears heap (with_entries (gather_next heap seat) more) owed steps (length more)
nears_gathered heap seat more owed steps makes none fewer paid lacking =
    let some = object_need_within_limits seat.command makes.an_object makes.in_range in
    let before = length-append seat.reserve seat.hand in
    let used = length-take (need seat) (fragments_gathered seat) in
    goes_on_cases (λ s. Nears heap (with_entries s more) owed steps (length more)) heap seat
    (λ enough. settled_cases (λ m. Nears heap (with_entries (record (after_gather heap seat) { point = points.Making m }) more) owed steps (length more)) seat.command
    (λ an_array. record { fewer = omega (arith, used, fewer); paid = omega (arith, paid) })
    (λ other. record { fewer = omega (arith, used, none, fewer); paid = omega (arith, paid) }))
    (λ lacks left. record { fewer = omega (arith, fewer); paid = omega (arith, lacking lacks) })
    (λ lacks none_left. returning_cases (λ m. Nears heap (with_entries (record seat { point = points.Making m }) more) owed steps (length more)) seat.hand
    (λ empty. record { fewer = omega (arith, fewer, some.0); paid = omega (arith, paid) })
    (λ left. record { fewer = omega (arith, fewer, lacks, before); paid = omega (arith, lacking lacks, lacks, before) }))

nears_claimed : (heap : Heap) (number : ℕ) (seat : Seat) (found : ℕ) → SeatIsGathering heap seat
    → Nears heap (with_entries (after_claim heap seat found) (takes_some number (length (clear_in (next_group_of heap seat) found))))
    (owes_making seat Gathering) (making_steps heap seat Gathering) (length (takes_some number (length (clear_in (next_group_of heap seat) found))))
nears_claimed heap number seat found is =
    let got = clear_in (next_group_of heap seat) found in
    let few = takes_few number (length got) in
    let some = object_need_within_limits seat.command is.makes.an_object is.makes.in_range in
    let before = length-append seat.reserve seat.hand in
    let all = length-append seat.reserve (seat.hand ++ got) in
    let hand = length-append seat.hand got in
    nears_gathered heap (record seat { hand = seat.hand ++ got; tried = seat.tried + 1 }) (takes_some number (length got)) (owes_making seat Gathering) (making_steps heap seat Gathering) is.makes is.none_stored
    (omega (arith, is.groups_left)) (omega (arith, before, is.too_few, few.1, some.0)) (λ lacks. omega (arith, before, all, hand, few.0, lacks))

pub going_on_awaits_none : (heap : Heap) (words : List ℕ) (number : ℕ) (seat : Seat) (more : List Entry) → entries_awaited heap words number (with_entries (gather_next heap seat) more) ≡ []
going_on_awaits_none heap words number seat more =
    goes_on_cases (λ s. entries_awaited heap words number (with_entries s more) ≡ []) heap seat (λ enough. refl) (λ few left. refl) (λ few all. refl)

-- a group is claimed
pub point_stands_at_gathering : PointStands (points.Making Gathering)
point_stands_at_gathering heap number seat here =
    let got : ℕ → List ℕ = λ found. clear_in (next_group_of heap seat) found in
    let next : ℕ → Seat = λ found. record seat { hand = seat.hand ++ got found; tried = seat.tried + 1 } in
    let move = claim_move heap number seat in
    record {
      step = record { in_table = next_group_within_heap heap seat here.fits.own.cursor_within; wide = λ found small. or_lt 64 found all_taken small (omega arith); leads = λ found led. tt };
      fits = λ found small led. fits_claimed heap seat found here.fits (point_is_aside heap number seat (points.Making Gathering) here (λ e. cc) here.way here.answer) here.hand;
      near = λ found. nears_claimed heap number seat found here.hand;
      adds = λ now. let found = found_by heap now move.step in
          adds_where_none_awaited heap now number seat move (own_list_same_going_on heap (next found)) (rw here.point_is refl) (going_on_awaits_none heap (after_words heap now number seat move) number (next found) (move.adds found)) refl;
    }

-- some fragments were given back
fits_given_back : (heap : Heap) (seat : Seat) → Fits heap seat → IsAside heap seat → SeatIsRefusing heap seat → Fits heap (after_give_back seat)
fits_given_back heap seat fits aside is =
    let group = first_group_of seat.hand in
    let both = length-filter_both (in_group group) (out_of_group group) (λ fragment. refl) seat.hand in
    fits_with_hand heap seat (outside_group group seat.hand) seat.stored seat.tried (seat.given + length (inside_group group seat.hand)) (points.Making (refusal_point (outside_group group seat.hand))) fits aside
    (All-filter (out_of_group group) (λ fragment. fragment < 16 * heap.groups) seat.hand fits.hand.hand_within)
    (refusal_point_fits heap (after_give_back seat) (outside_group group seat.hand)
    (record { makes = is.makes; no_spine = is.no_spine; no_body = is.no_body; none_stored = is.none_stored; all_tried = is.all_tried; too_few = omega (arith, is.too_few) }) refl)
    aside.nowhere aside.silent

nears_given_back : (heap : Heap) (seat : Seat) (entry : Entry) → 0 < length seat.hand
    → Nears heap (with_entries (after_give_back seat) (entry ∷ [])) (length seat.hand + 1) (length seat.hand + 1) 1
nears_given_back heap seat entry some =
    let less = outside_group_is_shorter (first_group_of seat.hand) seat.hand 0 some refl in
    returning_cases (λ m. Nears heap (with_entries (record (after_give_back seat) { point = points.Making m }) (entry ∷ [])) (length seat.hand + 1) (length seat.hand + 1) 1)
    (outside_group (first_group_of seat.hand) seat.hand)
    (λ empty. record { fewer = omega arith; paid = omega arith }) (λ left. record { fewer = omega arith; paid = omega arith })

-- a group is given back
pub point_stands_at_returning : PointStands (points.Making GivingBack)
point_stands_at_returning heap number seat here = record {
  step = record {
    in_table = fragments_group_within_heap heap seat.hand 0 here.hand.1 here.fits.hand.hand_within;
    wide = λ found small. let le = and_le_r found (2 ^ 64 - 1 - mask_of (inside_first_group seat)) in omega arith;
    leads = λ found led. tt;
  };
  fits = λ found small led. fits_given_back heap seat here.fits (point_is_aside heap number seat (points.Making GivingBack) here (λ e. cc) here.way here.answer) here.hand.0;
  near = λ found. nears_given_back heap seat _ here.hand.1;
  adds = λ now. adds_where_none_awaited heap now number seat (give_back_move number seat) refl (rw here.point_is refl) refl refl;
}

-- the step at which a refusal is told
refusal_step_stands : (heap : Heap) (command : Command) (words : ℕ) → StepStands heap (refusal_step command words)
refusal_step_stands heap (commands.Array d cells) words = take_back_step_stands heap words
refusal_step_stands heap _ words = load_step_stands heap PollLoad refl tt

-- a refusal is told
pub point_stands_at_refusing : PointStands (points.Making Refusing)
point_stands_at_refusing heap number seat here = record {
  step = refusal_step_stands heap seat.command (spine_need seat);
  fits = λ found small led. fits_after_call heap (record seat { looks = refusal_looks seat.command found seat.looks }) here.fits.own.registers_whole here.fits.own.registers_fit here.fits.own.cursor_within here.fits.own.small_reserve
      here.fits.own.reserve_of_cursor (left_aside_is_absurd (call_point_has_not_left heap number seat (points.Making Refusing) here (λ e. cc)));
  near = λ found. record { fewer = omega arith; paid = omega arith };
  adds = λ now. adds_where_none_awaited heap now number seat (refusal_move number seat) refl (rw here.point_is refl) refl refl;
}

-- a record is to be made
fits_gathers : (heap : Heap) (seat : Seat) (d fields : ℕ) → Fits heap seat → MayBegin seat (New d fields) → Fits heap (after_begin heap seat (New d fields))
fits_gathers heap seat d fields fits may =
    fits_going_on heap (record seat { command = New d fields })
    (gathered_at_rest heap (record seat { command = New d fields }) fits.own (idle_is_aside heap seat fits may.idle may.present) (subst (FitsPoint heap seat) may.idle fits.at_point)
    (record { an_object = tt; in_range = may.in_range; numbered = may.numbered }))

-- the making of a record begins
pub command_stands_for_new : (d fields : ℕ) → CommandStands (New d fields)
command_stands_for_new d fields heap number seat ready =
    let next = record seat { command = New d fields } in
    let rest = ready_is_at_rest heap number seat (New d fields) ready in
    let some = object_need_within_limits (New d fields) tt ready.may.in_range in
    record {
      fits = fits_gathers heap seat d fields ready.fits ready.may;
      kept = own_list_same_going_on heap next;
      awaits = λ words. goes_on_cases (λ s. entries_awaited heap words number s ≡ []) heap next (λ enough. refl) (λ few left. refl) (λ few all. refl);
      owed = goes_on_cases (λ s. owes s ≤ 2 * need_of (New d fields) + 2) heap next (λ enough. omega arith) (λ few left. omega arith)
          (λ few all. absurd (omega (arith, all, rest.none_tried, ready.limits.some_group)));
    }
