-- The begin of a call that makes no object keeps the rule.
use Rattle.std.proofs.Common.{ℕ, ◌<◌, [], length, drop, refl, sym, ◌∙◌, append-nil}
use Rattle.core_rule.proofs.Terms.{Command, Heap, graph_of, register_value, phase, last_answer, has_left, Graph, IsRecordCall, target_of, IsAtRest, State, seat_at, call_start}
use Rattle.core_rule.proofs.Terms.{MayBegin, Begins, state_after, register_in, Seat, IsMachine, Book, node_at, HoldsValue, Rule}
use Rattle.core_machine.specs.declared.point.Point.TheVariants as points
use Rattle.core_rule.proofs.spines.NoPlaces.{same_range_away}
use Rattle.core_rule.proofs.roots.CallRoots.{IsReachedNow, roots_hold_at_begin}
use Rattle.core_rule.proofs.graph.SeenStamps.{stamps_stay}
use Rattle.core_rule.proofs.steps.Assemble.{Keeps, keeps_rule_after_begin}
use Rattle.core_rule.proofs.entries.AtRest.{seat_fits, point_awaits_none}
use Rattle.core_rule.proofs.entries.Begins.{begins, began_at_begin}
use Rattle.core_rule.proofs.hand.EmptyHand.{together_where_empty, is_stored_where_none, gathers_right_unbegun, holding_of_equal_hand}
use Rattle.core_rule.proofs.cycle.FreshCycle.{seat_in_cycle_when_fresh}
use Rattle.core_rule.proofs.entries.OwnEntries.{counts_agree_without_entry}
use Rattle.core_rule.proofs.entries.SeatLists.{own_list_is_all_told}
use Rattle.core_rule.proofs.budgets.NoneMade.{MakesNone, no_place_where_none_made, none_granted, none_placed, none_refused}
use Rattle.core_rule.proofs.spines.SpineFrames.{spine_in_hand_away}
use Rattle.core_rule.proofs.entries.Starting.{fresh_is_unnamed, bare_is_spineless, Starts, other_call_starts}

-- the begin of any call but a new record's keeps the rule
pub begin_others_keep : (heap : Heap) (state : State) (book : Book) (number : ℕ) (command : Command) → Rule heap state book → number < heap.seats
    → MayBegin (seat_at state number) command → (IsRecordCall command → ⊥) → IsMachine heap (state_after heap state (Begins number command))
    → Keeps heap state (state_after heap state (Begins number command)) book (begins number (length book.history) book.begun) []
begin_others_keep heap state book number command rule here may other machine =
    let old : Seat = seat_at state number in
    let seat : Seat = record old { command = command } in
    let next : Seat = call_start heap seat command in
    let g : Graph = graph_of heap book.history in
    let stands = rule.seats_stand number here in
    let rest : IsAtRest old = rw may.idle at (seat_fits rule number here).at_point in
    let holds : (r : ℕ) → HoldsValue book.made book.owner book.fragments (register_in old.registers r) (register_value g number r)
    = λ r. stands.names.registers r (point_awaits_none old.point points.Idle (target_of old.command) r may.idle (λ none. none)) in
    let start : Starts g (node_at g book.made) book.made book.owner book.fragments number seat next
    = other_call_starts g (node_at g book.made) book.made book.owner book.fragments number heap seat command other may.served refl (λ r. (register_value g number r, holds r)) in
    let own = start.own in
    let same = own.same in
    let bare = bare_is_spineless number next next.point start.bare in
    let before : MakesNone old.point = rw may.idle tt in
    keeps_rule_after_begin heap state book number next rule here machine record {
      own = record {
        holding = holding_of_equal_hand book.owner number old.reserve old.hand old.body next.reserve next.hand next.body own.reserve own.hand own.body stands.own.holding;
        stored = is_stored_where_none heap state.words number next (same.stored ∙ rest.none_stored);
        together = together_where_empty heap next.cursor next.tried next.hand next.body (own.hand ∙ rest.empty_hand) (own.body ∙ rest.no_body);
        spine = spine_in_hand_away heap state.words state.words book.spine_owner number old next (no_place_where_none_made old old.point before) bare.no_place stands.own.spine;
      };
      names = record { registers = λ r awake. rw same.registers (holds r); way = start.way; address = bare.no_address heap state.words (node_at g book.made) book.owner book.fragments book.spines book.spine_owner };
      told = record {
        list = record {
          awaited = [];
          own = append-nil next.mine ∙ same.mine ∙ own_list_is_all_told stands.told.list (rw may.idle at stands.told.list.awaits);
          awaits = start.awaits;
        };
        counts = counts_agree_without_entry g book.history number old next same.made same.sets
            (stamps_stay old next points.Idle next.point may.idle refl tt (fresh_is_unnamed next.point start.fresh) same.seen) same.left (rw (own.reserve, own.hand, own.body) refl) stands.told.counts;
        began = began_at_begin heap state.words book number next.point;
        gathers = gathers_right_unbegun heap book.owner number (drop (begins number (length book.history) book.begun number) book.history) next.cursor next.tried next.given (own.tried ∙ rest.none_tried) (own.given ∙ rest.none_given);
        used = bare.none_used heap book.history;
      };
      cycle = seat_in_cycle_when_fresh heap state.words book.owner book.colour (phase book.history) (last_answer number book.history) (has_left number book.history) number old next
          record { answered = same.answered; left = same.left; asked = same.asked } start.fresh stands.cycle;
    }
    same.answered record {
      granted = bare.none_granted ∙ sym (none_granted old old.point before);
      placed = λ half. bare.none_placed half ∙ sym (none_placed half old old.point before);
      refused = bare.none_refused ∙ sym (none_refused old old.point before);
      range = same_range_away old next bare.no_place;
    } (λ marks roots. roots_hold_at_begin (IsReachedNow heap state book) heap seat command other may.served roots.registers)
