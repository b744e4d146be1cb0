-- The begin of an inner call of a collect keeps the rule.
use Rattle.std.proofs.Common.{ℕ, ◌<◌, [], length, drop, refl, ◌∙◌, append-nil}
use Rattle.heap_model.specs.declared.calls.collect.Inner.{Inner}
use Rattle.heap_model.specs.declared.calls.collect.Inner.TheVariants.{Look, Answer, Behind, Note}
use Rattle.core_rule.proofs.Terms.{Heap, graph_of, phase, last_answer, has_left, Graph, register_value, State, seat_at, after_inner_begin, MayBeginInner, BeginsInner, state_after}
use Rattle.core_rule.proofs.Terms.{IsMachine, target_of, IsAtRest, register_in, Seat, Book, Awaits, node_at, HoldsValue, Rule, WayStands}
use Rattle.core_machine.specs.declared.point.Point.TheVariants as points
use Rattle.core_machine.specs.seat.Collecting.{inner_point}
use Rattle.core_rule.proofs.frames.SeatFrames.{AddressAt}
use Rattle.core_rule.proofs.cycle.FreshCycle.{seat_in_cycle_when_fresh}
use Rattle.core_rule.proofs.entries.AtRest.{seat_fits, point_awaits_none}
use Rattle.core_rule.proofs.entries.Begins.{begins, book_begun, began_at_begin}
use Rattle.core_rule.proofs.entries.OwnEntries.{counts_agree_without_entry}
use Rattle.core_rule.proofs.entries.SeatLists.{own_list_is_all_told}
use Rattle.core_rule.proofs.entries.Starting.{fresh_is_unnamed, IsFresh}
use Rattle.core_rule.proofs.hand.EmptyHand.{together_where_empty, is_stored_where_none, gathers_right_unbegun}
use Rattle.core_rule.proofs.roots.CallRoots.{IsReachedNow}
use Rattle.core_rule.proofs.marking.Marks.{IsOffWay, roots_hold_off_way}
use Rattle.core_rule.proofs.budgets.NoneMade.{MakesNone, no_place_where_none_made, used_stands_where_none_made, same_weights_where_none_made}
use Rattle.core_rule.proofs.spines.SpineFrames.{spine_in_hand_away}
use Rattle.core_rule.proofs.graph.SeenStamps.{stamps_stay}
use Rattle.core_rule.proofs.steps.Assemble.{Keeps, keeps_rule_after_begin}

-- an inner call begins on no way, and no later than the first point of an answer
off_way : (inner : Inner) → IsOffWay (inner_point inner)
off_way Look = tt
off_way Answer = tt
off_way (Behind other) = tt
off_way (Note reply) = tt

fresh : (inner : Inner) → IsFresh (inner_point inner)
fresh Look = tt
fresh Answer = tt
fresh (Behind other) = tt
fresh (Note reply) = tt

-- and makes no object
makes_none : (inner : Inner) → MakesNone (inner_point inner)
makes_none Look = tt
makes_none Answer = tt
makes_none (Behind other) = tt
makes_none (Note reply) = tt

pub begin_inner_keeps : (heap : Heap) (state : State) (book : Book) (number : ℕ) (inner : Inner) → Rule heap state book → number < heap.seats
    → MayBeginInner heap number (seat_at state number) inner → IsMachine heap (state_after heap state (BeginsInner number inner))
    → Keeps heap state (state_after heap state (BeginsInner number inner)) book (begins number (length book.history) book.begun) []
begin_inner_keeps heap state book number inner rule here may machine =
    let old : Seat = seat_at state number in
    let next : Seat = after_inner_begin old inner in
    let g : Graph = graph_of heap book.history in
    let stands = rule.seats_stand number here in
    let before : MakesNone old.point = rw may.idle tt in
    let rest : IsAtRest old = rw may.idle at (seat_fits rule number here).at_point in
    let holds : (r : ℕ) → HoldsValue book.made book.owner book.fragments (register_in old.registers r) (register_value g number r)
    = λ r. stands.names.registers r (point_awaits_none old.point points.Idle (target_of old.command) r may.idle (λ none. none)) in
    keeps_rule_after_begin heap state book number next rule here machine record {
      own = record {
        holding = stands.own.holding;
        stored = is_stored_where_none heap state.words number next rest.none_stored;
        together = together_where_empty heap next.cursor next.tried next.hand next.body rest.empty_hand rest.no_body;
        spine = spine_in_hand_away heap state.words state.words book.spine_owner number old next (no_place_where_none_made old old.point before) (no_place_where_none_made next next.point (makes_none inner)) stands.own.spine;
      };
      names = record { registers = λ r awake. holds r; way = way_stands inner; address = address inner };
      told = record {
        list = record {
          awaited = [];
          own = append-nil next.mine ∙ own_list_is_all_told stands.told.list (rw may.idle at stands.told.list.awaits);
          awaits = none_awaits inner;
        };
        counts = counts_agree_without_entry g book.history number old next refl refl (stamps_stay old next points.Idle (inner_point inner) may.idle refl tt (fresh_is_unnamed (inner_point inner) (fresh inner)) refl) refl refl stands.told.counts;
        began = began_at_begin heap state.words book number next.point;
        gathers = gathers_right_unbegun heap book.owner number (drop (begins number (length book.history) book.begun number) book.history) next.cursor next.tried next.given rest.none_tried rest.none_given;
        used = used_stands_where_none_made heap book.history number next next.point (makes_none inner);
      };
      cycle = seat_in_cycle_when_fresh heap state.words book.owner book.colour (phase book.history) (last_answer number book.history) (has_left number book.history) number old next
          record { answered = refl; left = refl; asked = refl } (fresh inner) stands.cycle;
    }
    refl (same_weights_where_none_made old next before (makes_none inner)) (λ marks. roots_hold_off_way (IsReachedNow heap state book) old next refl (off_way inner))
  where
    way_stands : (its : Inner) → WayStands (node_at (graph_of heap book.history) book.made) book.made book.owner book.fragments (after_inner_begin (seat_at state number) inner) (inner_point its)
    way_stands Look = tt
    way_stands Answer = tt
    way_stands (Behind other) = tt
    way_stands (Note reply) = tt

    address : (its : Inner) → AddressAt heap state.words (book_begun heap state.words book number) (after_inner_begin (seat_at state number) inner) (inner_point its)
    address Look = tt
    address Answer = tt
    address (Behind other) = tt
    address (Note reply) = tt

    none_awaits : (its : Inner) → Awaits (graph_of heap book.history) book.made book.owner book.fragments number (after_inner_begin (seat_at state number) inner) (inner_point its) []
    none_awaits Look = refl
    none_awaits Answer = refl
    none_awaits (Behind other) = refl
    none_awaits (Note reply) = refl
