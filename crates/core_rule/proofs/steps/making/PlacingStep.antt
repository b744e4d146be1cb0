-- A step by which an array's spine gets its place keeps the rule.
use Rattle.std.proofs.Common.{◌≡◌, ℕ, ◌+◌, ◌%◌, ◌^◌, ◌<◌, ◌≤◌, inl, List, [], refl, sym, ap, ◌∙◌, arith}
use Rattle.std.proofs.lemmas.Bool.Decides.{nat_tests}
use Rattle.std.proofs.lemmas.List.{append-nil}
use Rattle.heap_words.specs.declared.spot.Spot.{Spot as SpinePlace}
use Rattle.core_rule.proofs.Terms.{graph_of, phase, last_answer, has_left, Graph, Placing, Listing, Budget, seat_at, placing_move, target_of, HasArrayBody, HasNoSpine, Seat}
use Rattle.core_rule.proofs.Terms.{spine_need, at, Book, granted_at, placed_at, SpineOwner, next_spine}
use Rattle.core_machine.specs.declared.point.Point.TheVariants as points
use Rattle.core_machine.specs.declared.table.address.Address.TheVariants.{Spot}
use Rattle.core_machine.specs.Moves.{seat_after}
use Rattle.core_rule.proofs.colours.LeadsFrames.{led_before_where_same, same_sources_ahead}
use Rattle.core_rule.proofs.cycle.MakingCycle.{seat_in_cycle_goes_on}
use Rattle.core_rule.proofs.entries.InFlight.{making_awaits_none, began_without_entry, making_is_not_answered}
use Rattle.core_rule.proofs.entries.OwnEntries.{counts_agree_without_entry}
use Rattle.core_rule.proofs.entries.SeatLists.{making_list_is_all_told, own_list_of_making}
use Rattle.core_rule.proofs.book.BookGoing.{book_goes_on_with_spine_owners}
use Rattle.core_rule.proofs.frames.BesideFrames.{leaves_beside_word_aside, arrays_stay, heap_stands_beside, seat_stands_beside}
use Rattle.core_rule.proofs.hand.EmptyHand.{is_stored_where_none}
use Rattle.core_rule.proofs.marking.Marks.{leaves_by_same_sources, marks_go_on_off_way}
use Rattle.core_rule.proofs.budgets.BudgetFrames.{stepped, same_grants_recoloured}
use Rattle.core_rule.proofs.budgets.BudgetSteps.{budgets_stand_after_change, budgets_stand_with_spine_owners}
use Rattle.core_rule.proofs.halves.HalvesMoves.{halves_stand_with_seat}
use Rattle.core_rule.proofs.budgets.OffsetWithin.{offset_within_granted_and_placed}
use Rattle.core_rule.proofs.spines.SpineFrames.{spine_is_stored_by_words}
use Rattle.core_rule.proofs.spines.SpotClaims.{spot_after, words_claimed, owner_claimed, book_claimed, same_spines_after_spot_claim, next_spine_after_claim, spines_left_after_claim, places_stay_after_claim, spines_stand_after_claim, spine_in_hand_after_claim, halves_stand_after_claim}
use Rattle.core_rule.proofs.steps.Assemble.{keeps_rule_after_step, StepKeeps, seat_fits}
use Rattle.core_rule.proofs.words.Addresses.{at-put_apart}
use Rattle.core_rule.proofs.steps.StepKinds.{StepKind, beside, step_kind_of_way, on_words_of_plain_step}

-- a claim of a spine's place keeps the rule
pub placing_keeps : StepKeeps (points.Making Placing) (λ heap number. placing_move)
placing_keeps heap state book number rule here point machine =
    let seat : Seat = seat_at state number in
    let found : ℕ = at heap state.words Spot in
    let needs : ℕ = spine_need seat in
    let spot : SpinePlace = next_spine heap state.words in
    let table = rule.machine.table in
    let words : List ℕ = words_claimed heap state book number needs table in
    let new : Seat = seat_after (placing_move seat) found in
    let spine_owner : ℕ → ℕ → SpineOwner = owner_claimed heap state book number needs table in
    let now : Book = book_claimed heap state book number needs table in
    let g : Graph = graph_of heap book.history in
    let stands = rule.seats_stand number here in
    let fits : HasArrayBody seat × HasNoSpine seat.used seat.spine seat.listed = rw point at (seat_fits rule number here).at_point in
    let old = rule.heap_stands.spines in
    let halves = rule.space.halves in
    let given : granted_at seat seat.point ≡ needs = rw point refl in
    let unplaced : placed_at spot.half seat seat.point ≡ 0 = rw point refl in
    let room : spot.offset + needs ≤ heap.spine
    = omega (arith, offset_within_granted_and_placed heap state book rule.heap_stands.control_words rule.space.budgets halves number here, given, unplaced, rule.space.budgets.low) in
    let few : spot.offset + needs < 2 ^ 31 = omega (arith, room, rule.machine.limits.spine_fits) in
    let same = same_spines_after_spot_claim heap state book number needs table in
    let beside = leaves_beside_word_aside heap state.words Spot ((found + needs) % 2 ^ 64) (omega arith) (omega arith) in
    let arrays = arrays_stay heap state.words words book same in
    let sources = same_sources_ahead heap state.words Spot ((found + needs) % 2 ^ 64) (omega arith) in
    let next : next_spine heap words ≡ spot_after spot needs = next_spine_after_claim heap state book number needs table halves old few in
    let budget : at heap words Budget ≡ at heap state.words Budget = at-put_apart heap state.words Spot Budget _ (λ e. omega (arith, e)) in
    let placed : placed_at spot.half new new.point ≡ needs = grind (arith, nat_tests) in
    keeps_rule_after_step heap state book number words new now [] rule here machine (sym (append-nil book.history)) refl
    (heap_stands_beside heap state book rule words beside arrays spine_owner (λ f source x dark leads. led_before_where_same heap state.words words f (sources f) source x leads)
    (spines_stand_after_claim heap state book number needs table halves old few (omega (arith, here))))
    record {
      own = record {
        holding = stands.own.holding;
        stored = is_stored_where_none heap words number new fits.0.2.none_stored;
        together = stands.own.together;
        spine = spine_in_hand_after_claim heap state book number needs table seat new (λ has. rw point at has) fits.0.1 refl refl fits.1.none_listed stands.own.spine;
      };
      names = record { registers = λ r fresh. stands.names.registers r (making_awaits_none Placing seat.point (target_of seat.command) r point); way = tt; address = tt };
      told = record {
        list = own_list_of_making g book.history book.made book.owner book.fragments number new Listing refl
            (append-nil seat.mine ∙ making_list_is_all_told g book.history book.made book.owner book.fragments number seat Placing point stands.told.list);
        counts = counts_agree_without_entry g book.history number seat new refl refl (rw point refl) refl refl stands.told.counts;
        began = began_without_entry book.history number (book.begun number) seat.point new.point (making_is_not_answered Placing seat.point point) stands.told.began;
        gathers = stands.told.gathers;
        used = tt;
      };
      cycle = seat_in_cycle_goes_on heap state.words words book.owner book.owner book.colour (phase book.history) (last_answer number book.history) (has_left number book.history) number seat new
          record { answered = refl; left = refl; asked = refl } tt (beside.answers number (omega (arith, here, rule.machine.limits.seats_fit))) (λ f borne. borne) stands.cycle;
    }
    (λ r below apart other. seat_stands_beside heap state book rule words beside arrays spine_owner r below (spines_left_after_claim heap state book number needs table halves r apart)
    (spine_is_stored_by_words heap state.words words (seat_at state r) same other.own.spine.stored) (places_stay_after_claim heap state book number needs table halves))
    (marks_go_on_off_way heap state book rule number here words now new (leaves_by_same_sources heap state book rule words sources) refl refl tt)
    record {
      budgets = budgets_stand_with_spine_owners heap (stepped state number words new) book spine_owner
          (budgets_stand_after_change heap state book number here rule.machine.seated words new needs 0 0 record { given_is = given; placed_is = unplaced; refused_is = rw point refl }
          needs needs 0 record { given_is = refl; placed_is = placed; refused_is = refl } book (same_grants_recoloured heap book book.colour book.begun)
          (ap (λ (s : SpinePlace). s.half) next) (ap (λ (s : SpinePlace). s.offset + 0) next ∙ omega arith) (omega (arith, budget)) (omega (arith, rule.space.budgets.low)) rule.space.budgets);
      halves = halves_stand_with_seat heap (record state { words = words }) now number new here rule.machine.seated (λ has. inl (sym (ap (λ (s : SpinePlace). s.half) next)))
          (halves_stand_after_claim heap state book number needs table halves old few here);
    }
    (book_goes_on_with_spine_owners heap state book spine_owner)

-- all that is asked of it
pub step_kind_of_placing : StepKind (points.Making Placing)
step_kind_of_placing = step_kind_of_way (points.Making Placing) (λ heap number. placing_move) (λ heap number seat. refl) (λ e. cc e) (λ heap number seat. tt) (λ heap number seat words found. refl) record {
  keeps = placing_keeps;
  stays = λ heap number seat found point_is. record { looks = refl; elsewhere = tt };
  comes = λ heap number seat found. tt;
  words = on_words_of_plain_step (points.Making Placing) (λ heap number. placing_move) (λ heap number seat. refl) (λ heap number seat is. is) (λ heap number seat low. low)
      (λ heap state book rule number here. beside (λ g below e. omega (arith, e, below)));
  found = λ heap state book number stands here point_is. tt;
}
