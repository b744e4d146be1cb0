-- A store of a spine word keeps the rule.
use Rattle.std.specs.Prelude.{if◌then◌else◌}
use Rattle.std.proofs.Common.{◌≡◌, ℕ, ◌+◌, ◌*◌, ◌<◌, ◌≤◌, Bool, true, false, nat_lt, List, [], length, refl, sym, ◌∙◌, arith, inr}
use Rattle.std.proofs.lemmas.List.{append-nil}
use Rattle.heap_words.specs.declared.spot.Spot.{Spot as SpinePlace}
use Rattle.core_rule.proofs.Terms.{Command, Heap, spine_need_of, graph_of, phase, last_answer, has_left, Graph, Listing, Bearing, Point, seat_at, listing_move, IsArrayCall}
use Rattle.core_rule.proofs.Terms.{target_of, FitsPoint, SpineIsListed, HasArrayBody, list_point, after_listing, Seat, spine_need, at, put, spine_place, spine_word, fragment_at}
use Rattle.core_rule.proofs.Terms.{UsedStands, node_at, HasPlace, IsMarked}
use Rattle.heap_model.specs.declared.command.Command.TheVariants as commands
use Rattle.core_machine.specs.declared.point.Making.{Making}
use Rattle.core_machine.specs.declared.point.Making.TheVariants.{Storing}
use Rattle.core_machine.specs.declared.point.Point.TheVariants as points
use Rattle.core_machine.specs.Moves.{seat_after}
use Rattle.core_rule.proofs.cycle.MakingCycle.{seat_in_cycle_goes_on}
use Rattle.core_rule.proofs.entries.InFlight.{making_awaits_none, began_without_entry, making_is_not_answered}
use Rattle.core_rule.proofs.entries.OwnEntries.{counts_agree_without_entry}
use Rattle.core_rule.proofs.entries.SeatLists.{making_list_is_all_told, own_list_of_making}
use Rattle.core_rule.proofs.book.BookGoing.{book_goes_on_with_history}
use Rattle.core_rule.proofs.frames.BesideFrames.{heap_stands_beside, seat_stands_beside}
use Rattle.core_rule.proofs.hand.EmptyHand.{is_stored_where_none}
use Rattle.core_rule.proofs.marking.Marks.{leaves_by_alive_sources, marks_go_on_off_way}
use Rattle.core_rule.proofs.budgets.BudgetFrames.{stepped, same_grants_recoloured, budgets_stand_after_step}
use Rattle.core_rule.proofs.budgets.BudgetSteps.{budgets_stand_with_words}
use Rattle.core_rule.proofs.halves.HalvesFrames.{halves_stand_after_step}
use Rattle.core_rule.proofs.halves.HalvesMoves.{halves_stand_with_words}
use Rattle.core_rule.proofs.budgets.NoneMade.{SameWeights}
use Rattle.core_rule.proofs.budgets.OffsetWithin.{owned_offset_within_table}
use Rattle.core_rule.proofs.spines.OtherWords.{leaves_places_of_spines, leaves_spines_of_itself}
use Rattle.core_rule.proofs.spines.ListedSources.{listing_has_place, leaves_beside_after_listing, arrays_stay_after_listing, places_stay_after_listing, copy_in_hand_after_listing, kept_sources_after_listing, borne_sources_after_listing, black_led_before_listing}
use Rattle.core_rule.proofs.spines.SpineFrames.{same_kept_of_itself, same_shape_of_itself, spines_stand_at_same_spot, spines_left_of_itself}
use Rattle.core_rule.proofs.spines.SpineStores.{others_spine_is_stored, spine_in_hand_after_listing, spot_same_after_listing, budget_same_after_listing}
use Rattle.core_rule.proofs.steps.Assemble.{keeps_rule_after_step, StepKeeps, seat_fits}
use Rattle.core_rule.proofs.dying.DeadWords.{dead_within_heap}
use Rattle.core_rule.proofs.steps.StepKinds.{StepKind, beside, comes_from_usual, IsUsual, step_kind_of_way, birth_colour_where_none_borne}
use Rattle.core_rule.proofs.held.SpineThere.{held_word_is_there, listed_word_is_held}
use Rattle.core_machine.proofs.seat_lemmas.Fitting.{listing_cases}

-- the next word's turn comes, or the object's words are stored
list_cases : (P : Making → Type 0) (listed words : ℕ) → P Listing → P Storing → P (list_point listed words)
list_cases P listed words more done = by (nat_lt listed words)
  where
    by : (b : Bool) → P (if b then Listing else Storing)
    by true = more
    by false = done

-- an array's listed words are no more than it needs
listed_all : (command : Command) (spine : SpinePlace) (listed : ℕ) → IsArrayCall command → SpineIsListed command spine listed → listed ≤ spine_need_of command
listed_all (commands.Array d cells) spine listed array all = omega (arith, all)
listed_all _ spine listed array all = absurd array

pub listed_within_need : (heap : Heap) (seat : Seat) (point : Point) → FitsPoint heap seat point → HasPlace seat point → seat.listed ≤ spine_need seat
listed_within_need heap seat (points.Making Listing) fits has = omega (arith, fits.1)
listed_within_need heap seat (points.Making Storing) fits has = listed_all seat.command seat.spine seat.listed has fits.3
listed_within_need heap seat (points.Making Bearing) fits has = listed_all seat.command seat.spine seat.listed has fits.4
listed_within_need heap seat _ fits has = absurd has

-- a store of a spine word keeps the rule
pub listing_keeps : StepKeeps (points.Making Listing) (λ heap number. listing_move)
listing_keeps heap state book number rule here point machine =
    let seat : Seat = seat_at state number in
    let n : ℕ = spine_word (fragment_at seat.body (seat.listed + 1)) in
    let words : List ℕ = put heap state.words (spine_place seat.spine seat.listed) n in
    let new : Seat = seat_after (listing_move seat) (at heap state.words (spine_place seat.spine seat.listed)) in
    let to : Making = list_point (seat.listed + 1) (spine_need seat) in
    let g : Graph = graph_of heap book.history in
    let stands = rule.seats_stand number here in
    let fits : HasArrayBody seat × (seat.listed < spine_need seat) = rw point at (seat_fits rule number here).at_point in
    let small : seat.spine.half < 2 = (seat_fits rule number here).hand.spine_within.half_within in
    let placed : HasPlace seat seat.point = listing_has_place heap state book rule number here point n in
    let beside = leaves_beside_after_listing heap state book rule number here point n in
    let arrays = arrays_stay_after_listing heap state book rule number here point n in
    let old = rule.heap_stands.spines in
    let inside : seat.spine.offset + seat.listed < 2 * heap.spine
    = owned_offset_within_table heap state book rule seat.spine.half (seat.spine.offset + seat.listed) (λ none. absurd (cc (stands.own.spine.placed placed seat.listed fits.1, none))) in
    let spot = spot_same_after_listing heap state.words book.spine_owner number seat stands.own.spine placed fits.1 small n in
    let budget = budget_same_after_listing heap state.words book.spine_owner number seat stands.own.spine placed fits.1 small n in
    let new_has : HasPlace new new.point = list_cases (λ m. HasPlace new (points.Making m)) (seat.listed + 1) (spine_need seat) fits.0.1 fits.0.1 in
    let weights : SameWeights seat new
    = list_cases (λ m. (later : Seat) → later.command ≡ seat.command → later.spine ≡ seat.spine → later.answered ≡ seat.answered → later.point ≡ points.Making m → SameWeights seat later) (seat.listed + 1) (spine_need seat)
    (λ later same spine answered is. rw (is, same, spine, answered)
    record { granted = sym (rw point refl); placed = λ h. sym (rw point refl); refused = sym (rw point refl); range = record { had = λ has. rw point has; spine = λ has. refl; answered = λ has. refl } })
    (λ later same spine answered is. rw (is, same, spine, answered)
    record { granted = sym (rw point refl); placed = λ h. sym (rw point refl); refused = sym (rw point refl); range = record { had = λ has. rw point has; spine = λ has. refl; answered = λ has. refl } }) new refl refl refl refl in
    let grants = same_grants_recoloured heap book book.colour book.begun in
    let marked : (f : ℕ) → IsMarked book.colour f → IsMarked book.colour f = λ f dark. dark in
    let same_words = leaves_spines_of_itself heap state.words in
    keeps_rule_after_step heap state book number words new book [] rule here machine (sym (append-nil book.history)) refl
    (heap_stands_beside heap state book rule words beside arrays book.spine_owner (black_led_before_listing heap state book rule number here point n)
    (spines_stand_at_same_spot heap state.words words spot heap.seats (length book.made) book.spines book.fragments book.spine_owner (node_at g book.made) (node_at g book.made)
    book.owner book.owner (same_kept_of_itself book.owner) (same_shape_of_itself (node_at g book.made))
    (λ f i k is. (is, beside.parts f 0 (dead_within_heap heap state.words book.owner f i k rule.heap_stands.control_words is) (omega arith))) old))
    record {
      own = record {
        holding = stands.own.holding;
        stored = is_stored_where_none heap words number new fits.0.2.none_stored;
        together = stands.own.together;
        spine = spine_in_hand_after_listing heap state.words book.spine_owner number seat stands.own.spine placed fits.1 small n new rule.machine.table inside refl new_has refl refl refl refl;
      };
      names = record { registers = λ r fresh. stands.names.registers r (making_awaits_none Listing seat.point (target_of seat.command) r point); way = tt; address = tt };
      told = record {
        list = own_list_of_making g book.history book.made book.owner book.fragments number new to refl
            (append-nil seat.mine ∙ making_list_is_all_told g book.history book.made book.owner book.fragments number seat Listing point stands.told.list);
        counts = counts_agree_without_entry g book.history number seat new refl refl (rw point refl) refl refl stands.told.counts;
        began = began_without_entry book.history number (book.begun number) seat.point new.point (making_is_not_answered Listing seat.point point) stands.told.began;
        gathers = stands.told.gathers;
        used = list_cases (λ m. UsedStands heap book.history number new (points.Making m)) (seat.listed + 1) (spine_need seat) tt tt;
      };
      cycle = seat_in_cycle_goes_on heap state.words words book.owner book.owner book.colour (phase book.history) (last_answer number book.history) (has_left number book.history) number seat new
          record { answered = refl; left = refl; asked = refl } tt (beside.answers number (omega (arith, here, rule.machine.limits.seats_fit))) (λ f borne. borne) stands.cycle;
    }
    (λ r below apart other. seat_stands_beside heap state book rule words beside arrays book.spine_owner r below (spines_left_of_itself r book.spine_owner)
    (others_spine_is_stored heap state.words book.spine_owner number seat stands.own.spine placed fits.1 small n r (seat_at state r) apart other.own.spine
    (seat_fits rule r below).hand.spine_within.half_within (listed_within_need heap (seat_at state r) (seat_at state r).point (seat_fits rule r below).at_point))
    (places_stay_after_listing heap state book rule number here point n))
    (marks_go_on_off_way heap state book rule number here words book new
    (leaves_by_alive_sources heap state book rule words (kept_sources_after_listing heap state book rule number here point n) (borne_sources_after_listing heap state book rule number here point n)) refl refl tt)
    record {
      budgets = budgets_stand_with_words heap (stepped state number state.words new) book words spot budget
          (budgets_stand_after_step heap state book number state.words new book here rule.machine.seated same_words weights grants rule.space.budgets);
      halves = halves_stand_with_words heap (stepped state number state.words new) book words spot (copy_in_hand_after_listing heap state book rule number here point n)
          (halves_stand_after_step heap state book number state.words new book here rule.machine.seated (leaves_places_of_spines heap state.words state.words same_words) weights.range grants marked rule.space.halves);
    }
    (book_goes_on_with_history heap state book book.history book.begun)

-- all that is asked of it
pub step_kind_of_listing : StepKind (points.Making Listing)
step_kind_of_listing = step_kind_of_way (points.Making Listing) (λ heap number. listing_move) (λ heap number seat. refl) (λ e. cc e) (λ heap number seat. tt) (λ heap number seat words found. refl) record {
  keeps = listing_keeps;
  stays = λ heap number seat found point_is. record { looks = refl; elsewhere = tt };
  comes = λ heap number seat found.
      comes_from_usual _ (after_listing seat).point (listing_cases (λ point. IsUsual (points.Making point)) (seat.listed + 1) (spine_need seat) (λ more. tt) (λ all. tt));
  words = record {
    bears = λ heap state book rule number here f within unborn. birth_colour_where_none_borne (points.Making Listing) (λ heap number. listing_move) (λ heap number seat. refl) heap state book rule number f within unborn (beside (λ g below e. omega (arith, e, below)));
    stores = λ heap number seat is. inr refl;
    there = λ heap state book rule number here point_is low.
        held_word_is_there heap state book rule (seat_at state number).spine.half ((seat_at state number).spine.offset + (seat_at state number).listed) low (listed_word_is_held heap state book rule number here point_is);
  };
  found = λ heap state book number stands here point_is. tt;
}
