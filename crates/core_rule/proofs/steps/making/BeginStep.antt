-- The begin of a call that makes a record keeps the rule.
use Rattle.std.proofs.Common.{slice_set, ℕ, ◌<◌, [], length, drop, refl, ◌≡◌, subst, ◌∙◌}
use Rattle.core_rule.proofs.Terms.{Command, Heap, spine_need_of, graph_of, phase, last_answer, has_left, IsRecordCall, target_of, IsAtRest, State, seat_at, MayBegin, gather_next}
use Rattle.core_rule.proofs.Terms.{Seat, IsMachine, Book, Rule, IsReached}
use Rattle.heap_model.specs.declared.command.Command.TheVariants as commands
use Rattle.core_machine.specs.declared.point.Point.TheVariants as points
use Rattle.core_machine.proofs.seat_lemmas.Fitting.{record_makes_object}
use Rattle.core_rule.proofs.marking.Marks.{roots_hold_off_way}
use Rattle.core_rule.proofs.graph.SeenStamps.{stamps_stay}
use Rattle.core_rule.proofs.steps.Assemble.{Keeps, keeps_rule_after_begin}
use Rattle.core_rule.proofs.entries.AtRest.{seat_fits, point_awaits_none}
use Rattle.core_rule.proofs.entries.Begins.{begins, began_at_begin}
use Rattle.core_rule.proofs.hand.ClaimOrder.{together_after_going_on}
use Rattle.core_rule.proofs.hand.EmptyHand.{together_where_empty, is_stored_where_none, gathers_right_unbegun}
use Rattle.core_rule.proofs.hand.GoesOn.{holding_goes_on, held_length_goes_on, gathers_right_goes_on, stays_making_goes_on, IsUnplaced, unplaced_goes_on, same_weights_where_unplaced}
use Rattle.core_rule.proofs.cycle.MakingCycle.{seat_in_cycle_goes_on}
use Rattle.core_rule.proofs.entries.OwnEntries.{counts_agree_without_entry}
use Rattle.core_rule.proofs.entries.SeatLists.{own_list_of_making, idle_list_is_all_told}
use Rattle.core_rule.proofs.budgets.NoneMade.{MakesNone, no_place_where_none_made, none_granted, none_placed, none_refused}
use Rattle.core_rule.proofs.spines.SpineFrames.{spine_in_hand_away}

-- a record has no spine words
needs_none : (command : Command) → IsRecordCall command → spine_need_of command ≡ 0
needs_none (commands.New d fields) a_record = refl
needs_none _ a_record = absurd a_record

-- the begin of a call keeps the rule
pub begin_keeps : (heap : Heap) (state : State) (book : Book) (number : ℕ) (command : Command) → Rule heap state book → number < heap.seats
    → MayBegin (seat_at state number) command → IsRecordCall command → IsMachine heap (record state { seats = slice_set state.seats number (gather_next heap (record (seat_at state number) { command = command })) })
    → Keeps heap state (record state { seats = slice_set state.seats number (gather_next heap (record (seat_at state number) { command = command })) }) book (begins number (length book.history) book.begun) []
begin_keeps heap state book number command rule here may a_record machine =
    let seat : Seat = record (seat_at state number) { command = command } in
    let next : Seat = gather_next heap seat in
    let stands = rule.seats_stand number here in
    let rest : IsAtRest (seat_at state number) = rw may.idle at (seat_fits rule number here).at_point in
    let before : MakesNone (seat_at state number).point = rw may.idle tt in
    let unplaced : IsUnplaced 0 next = subst (λ n. IsUnplaced n next) (needs_none command a_record) (unplaced_goes_on heap seat (record_makes_object command a_record)) in
    let stays = stays_making_goes_on heap seat in
    let same = stays.same in
    keeps_rule_after_begin heap state book number next rule here machine record {
      own = record {
        holding = holding_goes_on heap book.owner number seat rest.no_body stands.own.holding;
        stored = is_stored_where_none heap state.words number next (same.stored ∙ rest.none_stored);
        spine = spine_in_hand_away heap state.words state.words book.spine_owner number (seat_at state number) next
            (no_place_where_none_made (seat_at state number) (seat_at state number).point before) unplaced.no_place stands.own.spine;
        together = together_after_going_on heap seat rest.no_body (seat_fits rule number here).own.cursor_within (seat_fits rule number here).own.reserve_of_cursor
            (together_where_empty heap seat.cursor seat.tried seat.hand seat.body rest.empty_hand rest.no_body);
      };
      names = record {
        registers = rw same.registers (λ r fresh. stands.names.registers r (point_awaits_none (seat_at state number).point points.Idle (target_of (seat_at state number).command) r may.idle (λ none. none)));
        way = rw stays.point_is tt;
        address = rw stays.point_is tt;
      };
      told = record {
        list = own_list_of_making (graph_of heap book.history) book.history book.made book.owner book.fragments number next stays.making stays.point_is
            (same.mine ∙ idle_list_is_all_told (graph_of heap book.history) book.history book.made book.owner book.fragments number (seat_at state number) may.idle stands.told.list);
        counts = counts_agree_without_entry (graph_of heap book.history) book.history number (seat_at state number) next same.made same.sets
            (stamps_stay (seat_at state number) next points.Idle (points.Making stays.making) may.idle stays.point_is tt tt same.seen) same.left (held_length_goes_on heap seat rest.no_body) stands.told.counts;
        began = began_at_begin heap state.words book number next.point;
        used = unplaced.none_used heap book.history number;
        gathers = gathers_right_goes_on heap book.owner number (drop (begins number (length book.history) book.begun number) book.history) seat rest.none_given
            (gathers_right_unbegun heap book.owner number (drop (begins number (length book.history) book.begun number) book.history) seat.cursor seat.tried seat.given rest.none_tried rest.none_given);
      };
      cycle = seat_in_cycle_goes_on heap state.words state.words book.owner book.owner book.colour (phase book.history) (last_answer number book.history) (has_left number book.history) number (seat_at state number) next
          record { answered = same.answered; left = same.left; asked = same.asked } (rw stays.point_is tt) refl (λ f borne. borne) stands.cycle;
    }
    same.answered
    (same_weights_where_unplaced 0 (seat_at state number) next (none_granted (seat_at state number) (seat_at state number).point before) (λ half. none_placed half (seat_at state number) (seat_at state number).point before)
    (none_refused (seat_at state number) (seat_at state number).point before) unplaced)
    (λ marks. roots_hold_off_way (IsReached heap state.words book.owner book.colour) (seat_at state number) next same.registers (rw stays.point_is tt))
