-- The give back of a seat's whole reserve before it leaves keeps the rule.
use Rattle.std.proofs.Common.{◌≡◌, ℕ, ◌+◌, ◌<◌, false, List, [], ◌∷◌, length, filter, drop, refl, ◌∙◌, subst, arith}
use Rattle.std.proofs.lemmas.Bool.{eq-eqb}
use Rattle.heap_model.specs.declared.command.Command.TheVariants as commands
use Rattle.core_rule.proofs.Terms.{Entry, graph_of, is_of, graph_seat, taken_of, spent_of, Graph, Control, target_of, IsAtRest, at, seat_at, Seat, Book, IsAnswered}
use Rattle.heap_model.specs.declared.entry.Entry.TheVariants as entries
use Rattle.core_machine.specs.declared.point.Leaving.TheVariants.{Emptying}
use Rattle.core_machine.specs.declared.point.Point.TheVariants as points
use Rattle.core_machine.specs.seat.HandshakeMoves.{empty_move}
use Rattle.core_machine.specs.Moves.{seat_after}
use Rattle.core_rule.proofs.book.BookGoing.{book_goes_on_with_owners}
use Rattle.core_rule.proofs.book.OwnersGo.{owners_go_on_by_giving}
use Rattle.core_rule.proofs.frames.SeatFrames.{registers_stay_with_owners}
use Rattle.core_rule.proofs.steps.Assemble.{keeps_rule_after_step, space_stands_after_step, StepKeeps}
use Rattle.core_rule.proofs.entries.AtRest.{seat_fits, in_flight_has_not_left, reserve_and_spent_is_taken, point_awaits_none}
use Rattle.core_rule.proofs.hand.EmptyHand.{together_where_empty, gathers_right_unbegun}
use Rattle.core_rule.proofs.frames.GivingBack.{words_given, book_given, graph_same_after_giving, same_kept_after_giving, leaves_spines_after_giving, same_grants_after_giving, heap_stands_after_giving, seat_in_cycle_after_giving, other_seat_stands_after_giving, marks_go_on_after_giving}
use Rattle.core_rule.proofs.entries.InFlight.{began_after_entry}
use Rattle.core_rule.proofs.entries.OwnEntries.{counts_agree_after_own, own_list_grows}
use Rattle.core_rule.proofs.hand.ReserveGiven.{reserve_fragment_is_taken, reserve_has_each_once, holding_after_emptying, bits_after_emptying}
use Rattle.core_rule.proofs.entries.SeatLists.{own_list_where_all_told, own_list_is_all_told}
use Rattle.core_rule.proofs.hand.StoredFrames.{is_stored_after_control}
use Rattle.core_rule.proofs.budgets.NoneMade.{MakesNone, no_place_where_none_made, same_weights_where_none_made}
use Rattle.core_rule.proofs.spines.SpineFrames.{spine_in_hand_away}
use Rattle.core_rule.proofs.steps.StepKinds.{StepKind, spares, shows_one, gives, on_looks_of_way, on_words_of_plain_step, born_bits_stay}
use Rattle.core_rule.proofs.words.WordBits.{giving_keeps_born_bits}
use Rattle.core_machine.proofs.table_lemmas.Masks.{mask_is_small}

-- the give back keeps the rule
pub empty_keeps : StepKeeps (points.Leaving Emptying) (λ heap. empty_move)
empty_keeps heap state book number rule here point machine =
    let seat : Seat = seat_at state number in
    let stands = rule.seats_stand number here in
    let fs : List ℕ = seat.reserve in
    let now : Seat = seat_after (empty_move number seat) (at heap state.words (Control seat.cursor)) in
    let entry : Entry = entries.GivesBack number (length fs) in
    let g : Graph = graph_of heap book.history in
    let at_point : IsAtRest seat × (seat.command ≡ commands.Leave) × (0 < length seat.reserve) = rw point at (seat_fits rule number here).at_point in
    let rest : IsAtRest seat = at_point.0 in
    let present : (graph_seat g number).left ≡ false = stands.told.counts.leaves ∙ in_flight_has_not_left rule number here (λ idle. absurd (cc (point, idle))) in
    let told : seat.mine ≡ filter (is_of number) book.history = own_list_is_all_told stands.told.list (rw point at stands.told.list.awaits) in
    let below : seat.cursor < heap.groups = (seat_fits rule number here).own.cursor_within in
    let held = reserve_fragment_is_taken book.owner number fs seat.hand seat.body stands.own.holding in
    let once = reserve_has_each_once book.owner number fs seat.hand seat.body stands.own.holding in
    let graph = graph_same_after_giving heap state book number rule here seat.cursor fs below held once in
    let kept = same_kept_after_giving heap state book number rule here seat.cursor fs below held once in
    let later : Book = book_given heap state book number rule here seat.cursor fs below held once in
    let own : length fs + spent_of number book.history ≡ taken_of number book.history = reserve_and_spent_is_taken heap state book number rule here rest in
    let words : List ℕ = words_given heap state book number rule here seat.cursor fs below held once in
    let makes : MakesNone seat.point = rw point tt in
    keeps_rule_after_step heap state book number words now later (entry ∷ []) rule here machine refl refl
    (heap_stands_after_giving heap state book number rule here seat.cursor fs below held once
    (bits_after_emptying book.owner number fs seat.hand seat.body stands.own.holding heap state.words seat.cursor rule.machine.table below (seat_fits rule number here).own.reserve_of_cursor rule.heap_stands.control_words)
    present at_point.2 (omega (arith, own)))
    record {
      own = record {
        holding = holding_after_emptying book.owner number fs seat.hand seat.body stands.own.holding;
        stored = is_stored_after_control heap state.words number seat seat.cursor _ below stands.own.stored;
        together = together_where_empty heap seat.cursor seat.tried seat.hand seat.body rest.empty_hand rest.no_body;
        spine = spine_in_hand_away heap state.words words book.spine_owner number seat now (no_place_where_none_made seat seat.point makes) (λ has. has) stands.own.spine;
      };
      names = record {
        registers = rw graph (λ r fresh. registers_stay_with_owners book.owner later.owner kept book.made book.fragments g number seat.registers seat.point (target_of seat.command) stands.names.registers r
            (point_awaits_none seat.point (points.Leaving Emptying) (target_of seat.command) r point (λ none. none)));
        way = tt;
        address = tt;
      };
      told = record {
        list = own_list_where_all_told (graph_of heap later.history) later.history book.made later.owner book.fragments number now refl (own_list_grows number book.history seat.mine entry (eq-eqb number number refl) told);
        counts = rw graph (counts_agree_after_own g g book.history number seat now stands.told.counts entry (eq-eqb number number refl)
            stands.told.counts.numbered stands.told.counts.stamped (rw point at stands.told.counts.seen) stands.told.counts.leaves (omega arith));
        began = began_after_entry book.history entry number (book.begun number) seat.point now.point refl (λ still. subst IsAnswered point) stands.told.began;
        gathers = gathers_right_unbegun heap later.owner number (drop (book.begun number) later.history) seat.cursor seat.tried seat.given rest.none_tried rest.none_given;
        used = tt;
      };
      cycle = seat_in_cycle_after_giving heap state book number rule here seat.cursor fs below held once now record { answered = refl; left = refl; asked = refl } tt;
    }
    (other_seat_stands_after_giving heap state book number rule here seat.cursor fs below held once)
    (marks_go_on_after_giving heap state book number rule here seat.cursor fs below held once now refl refl tt)
    (space_stands_after_step heap state book number rule here words now later (leaves_spines_after_giving heap state book number rule here seat.cursor fs below held once) (same_weights_where_none_made seat now makes tt)
    (same_grants_after_giving heap state book number rule here seat.cursor fs below held once) (λ f dark. dark))
    (book_goes_on_with_owners heap state book later.history book.begun later.owner (owners_go_on_by_giving (length book.made) book.owner fs number held))

-- all that is asked of it
pub step_kind_of_emptying : StepKind (points.Leaving Emptying)
step_kind_of_emptying = record {
  keeps = λ heap state book number rule here looks. empty_keeps heap state book number rule here;
  shows = λ heap state number. shows_one _ (gives _);
  looks = on_looks_of_way (points.Leaving Emptying) (λ heap. empty_move) (λ heap number seat. refl) record {
    unnamed = λ e. cc e;
    blind = λ heap number seat. tt;
    mute = λ heap number seat words found r. refl;
    stays = λ heap number seat found point_is. record { looks = refl; elsewhere = tt };
    comes = λ heap number seat found. tt;
  };
  words = on_words_of_plain_step (points.Leaving Emptying) (λ heap. empty_move) (λ heap number seat. refl) (λ heap number seat is. is) (λ heap number seat low. low)
      (λ heap state book rule number here. spares _ refl (λ word i above below. born_bits_stay word _ (λ j small. giving_keeps_born_bits word j small _ (mask_is_small _)) i above below));
  found = λ heap state book number stands here point_is. tt;
}
