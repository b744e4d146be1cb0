-- A give back keeps the rule.
use Rattle.std.proofs.Common.{◌≡◌, ℕ, ◌+◌, ◌<◌, List, [], ◌∷◌, length, refl, arith}
use Rattle.std.proofs.lemmas.Bool.{eq-eqb}
use Rattle.core_rule.proofs.Terms.{Entry, graph_of, Graph, Control, GivingBack, target_of, SeatIsRefusing, inside_group, outside_group, at, seat_at, first_group_of, refusal_point}
use Rattle.core_rule.proofs.Terms.{after_give_back, give_back_move, Seat, spine_need, Book, fragments_in_hand}
use Rattle.heap_model.specs.declared.entry.Entry.TheVariants as entries
use Rattle.core_machine.specs.declared.point.Point.TheVariants as points
use Rattle.core_machine.specs.Moves.{seat_after}
use Rattle.core_rule.proofs.book.BookGoing.{book_goes_on_with_owners}
use Rattle.core_rule.proofs.book.OwnersGo.{owners_go_on_by_giving}
use Rattle.core_rule.proofs.frames.SeatFrames.{registers_stay_with_owners}
use Rattle.core_rule.proofs.spines.SpineFrames.{spine_in_hand_away}
use Rattle.core_rule.proofs.steps.Assemble.{making_seat_has_not_left, keeps_rule_after_step, space_stands_after_step, StepKeeps, seat_fits}
use Rattle.core_rule.proofs.hand.Bodies.{in_hand_is_hand}
use Rattle.core_rule.proofs.hand.ClaimOrder.{together_after_giving}
use Rattle.core_rule.proofs.words.ControlSteps.{bits_after_giving}
use Rattle.core_rule.proofs.hand.GoesOn.{unplaced_where_refusing, same_weights_where_unplaced}
use Rattle.core_rule.proofs.gather.GatherSteps.{own_giving_gathers_right}
use Rattle.core_rule.proofs.frames.GivingBack.{words_given, book_given, graph_same_after_giving, same_kept_after_giving, heap_stands_after_giving, seat_in_cycle_after_giving, other_seat_stands_after_giving, marks_go_on_after_giving, leaves_spines_after_giving, same_grants_after_giving}
use Rattle.core_rule.proofs.hand.HandMoves.{hand_fragment_is_taken, hand_has_each_once, inside_group_fragment_is_taken, inside_group_has_each_once, hand_within_heap, holding_after_giving}
use Rattle.core_rule.proofs.entries.InFlight.{making_awaits_none, tried_within_groups, began_after_entry, making_is_not_answered}
use Rattle.core_rule.proofs.hand.MakingSeats.{first_group_within_heap}
use Rattle.core_rule.proofs.entries.OwnEntries.{own_list_grows, counts_agree_after_own}
use Rattle.core_rule.proofs.lists.GroupLists.{inside_and_outside_lengths_make_whole, inside_first_group_is_some}
use Rattle.core_rule.proofs.entries.SeatLists.{making_list_is_all_told, own_list_where_all_told}
use Rattle.core_rule.proofs.hand.StoredFrames.{is_stored_after_control}
use Rattle.core_rule.proofs.steps.StepKinds.{StepKind, spares, shows_one, gives, comes_from_usual, IsUsual, on_looks_of_way, on_words_of_plain_step, born_bits_stay}
use Rattle.core_rule.proofs.words.WordBits.{giving_keeps_born_bits}
use Rattle.core_machine.proofs.seat_lemmas.Fitting.{returning_cases}
use Rattle.core_machine.proofs.table_lemmas.Masks.{mask_is_small}

-- what a hand has without a group, and what it has of the group
left_of_hand : (reserve hand body : List ℕ) (g : ℕ) → body ≡ [] → length reserve + length (fragments_in_hand (outside_group g hand) body) + length (inside_group g hand) ≡ length reserve + length (fragments_in_hand hand body)
left_of_hand reserve hand body g none = rw (in_hand_is_hand (outside_group g hand) body none, in_hand_is_hand hand body none) (omega (arith, inside_and_outside_lengths_make_whole g hand))

-- a give back keeps the rule
pub give_back_keeps : StepKeeps (points.Making GivingBack) (λ heap. give_back_move)
give_back_keeps heap state book number rule here point machine =
    let seat : Seat = seat_at state number in
    let stands = rule.seats_stand number here in
    let g : ℕ = first_group_of seat.hand in
    let group_hand : List ℕ = inside_group g seat.hand in
    let now : Seat = seat_after (give_back_move number seat) (at heap state.words (Control g)) in
    let entry : Entry = entries.GivesBack number (length group_hand) in
    let before : Graph = graph_of heap book.history in
    let at_point : SeatIsRefusing heap seat × (0 < length seat.hand) = rw point at (seat_fits rule number here).at_point in
    let refuses = at_point.0 in
    let below = first_group_within_heap heap seat (seat_fits rule number here) at_point.1 in
    let some = inside_first_group_is_some seat.hand at_point.1 in
    let held = inside_group_fragment_is_taken book.owner number seat.reserve seat.hand seat.body stands.own.holding g in
    let once = inside_group_has_each_once book.owner number seat.reserve seat.hand seat.body stands.own.holding g in
    let present = making_seat_has_not_left heap state book number GivingBack rule here point in
    let list = making_list_is_all_told before book.history book.made book.owner book.fragments number seat GivingBack point stands.told.list in
    let graph = graph_same_after_giving heap state book number rule here g group_hand below held once in
    let kept = same_kept_after_giving heap state book number rule here g group_hand below held once in
    let unplaced = unplaced_where_refusing now (outside_group g seat.hand) refl in
    let later : Book = book_given heap state book number rule here g group_hand below held once in
    keeps_rule_after_step heap state book number (words_given heap state book number rule here g group_hand below held once) now later (entry ∷ []) rule here machine refl refl
    (heap_stands_after_giving heap state book number rule here g group_hand below held once
    (bits_after_giving heap state.words book.owner g rule.machine.table below rule.heap_stands.control_words seat.hand number
    (hand_has_each_once book.owner number seat.reserve seat.hand seat.body stands.own.holding) (hand_fragment_is_taken book.owner number seat.reserve seat.hand seat.body stands.own.holding))
    present some (omega (arith, stands.told.counts.unborn, left_of_hand seat.reserve seat.hand seat.body g refuses.no_body)))
    record {
      own = record {
        holding = holding_after_giving book.owner number seat.reserve seat.hand seat.body stands.own.holding g refuses.no_body;
        stored = is_stored_after_control heap state.words number seat g _ below stands.own.stored;
        spine = spine_in_hand_away heap state.words (words_given heap state book number rule here g group_hand below held once) book.spine_owner number seat now
            (λ has. rw point at has) unplaced.no_place stands.own.spine;
        together = together_after_giving heap seat.cursor seat.tried g seat.hand seat.body refuses.no_body stands.own.together;
      };
      names = record {
        registers = rw graph (λ r fresh. registers_stay_with_owners book.owner later.owner kept book.made book.fragments before number seat.registers seat.point (target_of seat.command) stands.names.registers r
            (making_awaits_none GivingBack seat.point (target_of seat.command) r point));
        way = tt;
        address = tt;
      };
      told = record {
        list = own_list_where_all_told (graph_of heap later.history) later.history book.made later.owner book.fragments number now refl (own_list_grows number book.history seat.mine entry (eq-eqb number number refl) list);
        counts = rw graph (counts_agree_after_own before before book.history number seat now stands.told.counts entry (eq-eqb number number refl)
            stands.told.counts.numbered stands.told.counts.stamped (rw point at stands.told.counts.seen) stands.told.counts.leaves (omega (arith, left_of_hand seat.reserve seat.hand seat.body g refuses.no_body)));
        began = began_after_entry book.history entry number (book.begun number) seat.point (points.Making (refusal_point (outside_group g seat.hand))) refl (λ still. making_is_not_answered GivingBack seat.point point) stands.told.began;
        used = unplaced.none_used heap later.history number;
        gathers = own_giving_gathers_right heap book.owner book.history number group_hand once (hand_within_heap heap state.words book.owner rule.heap_stands.control_words number group_hand held) rule.heap_stands.used
            (book.begun number) stands.told.began.earlier seat.cursor seat.tried seat.given held
            (seat_fits rule number here).own.cursor_within (tried_within_groups heap seat seat.point (seat_fits rule number here).at_point) stands.told.gathers;
      };
      cycle = seat_in_cycle_after_giving heap state book number rule here g group_hand below held once now record { answered = refl; left = refl; asked = refl } tt;
    }
    (other_seat_stands_after_giving heap state book number rule here g group_hand below held once)
    (marks_go_on_after_giving heap state book number rule here g group_hand below held once now refl refl tt)
    (space_stands_after_step heap state book number rule here (words_given heap state book number rule here g group_hand below held once) now later
    (leaves_spines_after_giving heap state book number rule here g group_hand below held once)
    (same_weights_where_unplaced (spine_need seat) seat now (rw point refl) (λ half. rw point refl) (rw point refl) unplaced) (same_grants_after_giving heap state book number rule here g group_hand below held once) (λ f dark. dark))
    (book_goes_on_with_owners heap state book later.history book.begun later.owner (owners_go_on_by_giving (length book.made) book.owner group_hand number held))

-- all that is asked of it
pub step_kind_of_returning : StepKind (points.Making GivingBack)
step_kind_of_returning = record {
  keeps = λ heap state book number rule here looks. give_back_keeps heap state book number rule here;
  shows = λ heap state number. shows_one _ (gives _);
  looks = on_looks_of_way (points.Making GivingBack) (λ heap. give_back_move) (λ heap number seat. refl) record {
    unnamed = λ e. cc e;
    blind = λ heap number seat. tt;
    mute = λ heap number seat words found r. refl;
    stays = λ heap number seat found point_is. record { looks = refl; elsewhere = tt };
    comes = λ heap number seat found.
        comes_from_usual _ (after_give_back seat).point (returning_cases (λ point. IsUsual (points.Making point)) (after_give_back seat).hand (λ none. tt) (λ some. tt));
  };
  words = on_words_of_plain_step (points.Making GivingBack) (λ heap. give_back_move) (λ heap number seat. refl) (λ heap number seat is. is) (λ heap number seat low. low)
      (λ heap state book rule number here. spares _ refl (λ word i above below. born_bits_stay word _ (λ j small. giving_keeps_born_bits word j small _ (mask_is_small _)) i above below));
  found = λ heap state book number stands here point_is. tt;
}
